-- A command of the client that sits, before its turn and after it.
use Rattle.std.specs.Prelude.{◌≡◌, ◌≢◌, ℕ, ◌+◌, ◌<◌, List, ◌++◌, length, All}
use Rattle.qws_base.specs.Steps.{step}
use Rattle.qws_base.specs.declared.commands.Command.{Command}
use Rattle.region_table.specs.Numbers.{closed_gate}
use Rattle.fb_words.specs.declared.known.Client.{Client}
use Rattle.fb_words.specs.declared.known.ServerMode.{ServerMode}
use Rattle.fb_words.specs.Views.{HeadView}
use Rattle.fb_words.specs.Desks.{state_after}
use Rattle.display_lock.specs.Turns.{withdrawn, shut_out}
use Rattle.server_desk.specs.declared.answers.Answer.{Answer}
use Rattle.server_desk.specs.declared.answers.CallStop.{CallStop}
use Rattle.server_desk.specs.declared.answers.CallStop.TheVariants.{Busy, JournalFull, OutOfMemory}
use Rattle.server_desk.specs.Answers.{steps_made, entry_of_answer}
use Rattle.server_desk.specs.Serving.{HasServed}

-- the answer has the next number and the reply of the step, and the head has closed a turn of it
pub record HasStepped (before after : HeadView) (p : Client) (command : Command) (answer : Answer) : Type 0 where
  pub number : answer.number ≡ length before.server.closed + 1
  pub reply : answer.reply ≡ (step before.screen.setting.size (state_after before.screen.setting.size before.server.closed) p.number command).1
  pub few : steps_made p < p.step_limit
  pub served : HasServed before after (entry_of_answer p.number command answer)

-- the stop, and what it leaves of the head
abbrev pub StopsWith : HeadView → HeadView → Client → CallStop → Type 0
StopsWith before after p OutOfMemory = after ≡ withdrawn before
StopsWith before after p (JournalFull held) = (steps_made p ≡ p.step_limit) × (held ≡ p.step_limit) × (after ≡ withdrawn before)
StopsWith before after p (Busy found) = (steps_made p < p.step_limit) × (found ≢ closed_gate) × (after ≡ shut_out before found)

-- ---- waiting

-- shut out by the words found
abbrev pub delayed : HeadView → ServerMode → List ℕ → HeadView
delayed h mode found = record h { server = record h.server { mode = mode; turned = h.server.turned ++ found } }

-- shut out as often as painters were in: no word found is 2^32
pub record IsDelayed (before now : HeadView) : Type 0 where
  pub mode : ServerMode
  pub found : List ℕ
  pub head : now ≡ delayed before mode found
  pub others : All (λ n. n ≢ closed_gate) found

-- the same after the server was shut out as often as painters were in
pub record HasSteppedLater (before after : HeadView) (p : Client) (command : Command) (answer : Answer) : Type 0 where
  pub then : HeadView
  pub waited : IsDelayed before then
  pub stepped : HasStepped then after p command answer

-- the stop of a command that had no turn, and what it leaves of the head
abbrev pub HaltsWith : HeadView → HeadView → Client → CallStop → Type 0
HaltsWith before after p OutOfMemory = after ≡ withdrawn before
HaltsWith before after p (JournalFull held) = (steps_made p ≡ p.step_limit) × (held ≡ p.step_limit) × (after ≡ withdrawn before)
HaltsWith before after p (Busy found) = ⊥

-- What the desk's calls answer, and what they leave.
use Rattle.std.specs.Prelude.{◌≡◌, ◌≢◌, ℕ, ◌+◌, ◌<◌, List, [], ◌∷◌, ◌++◌, length, All}
use Rattle.qws_base.specs.Steps.{step}
use Rattle.qws_base.specs.declared.commands.Command.{Command}
use Rattle.qws_base.specs.declared.replies.Reply.{Reply}
use Rattle.qws_base.specs.declared.journals.JournalEntry.{JournalEntry}
use Rattle.region_table.specs.Numbers.{closed_gate}
use Rattle.turn_logs.specs.declared.items.Item.{Item}
use Rattle.fb_words.specs.declared.known.Client.{Client}
use Rattle.fb_words.specs.declared.known.Closed.{Closed}
use Rattle.fb_words.specs.declared.known.ServerMode.{ServerMode}
use Rattle.fb_words.specs.declared.known.ServerMode.TheVariants.{Resting}
use Rattle.fb_words.specs.Views.{PassView, steps_in}
use Rattle.fb_words.specs.Steps.{stepped}
use Rattle.server_desk.specs.DeskViews.{DeskView, connected, state_in, journal_in, withdrawn_desk, shut_out_desk}
use Rattle.server_desk.specs.declared.answers.Answer.{Answer}
use Rattle.server_desk.specs.declared.answers.ConnectStop.{ConnectStop}
use Rattle.server_desk.specs.declared.answers.ConnectStop.TheVariants.{TooManyClients, OutOfMemory}
use Rattle.server_desk.specs.declared.answers.CallStop.{CallStop}
use Rattle.server_desk.specs.declared.answers.CallStop.TheVariants.{Busy, JournalFull, OutOfMemory as CallOutOfMemory}
use Rattle.server_desk.specs.declared.answers.CloseStop.{CloseStop}
use Rattle.server_desk.specs.declared.answers.CloseStop.TheVariants.{Missing, OutOfMemory as CloseOutOfMemory}

-- ---- connecting

-- sixteen are connected, which is the number held; want of memory comes only where fewer are
abbrev pub IsConnectStop : ℕ → ConnectStop → Type 0
IsConnectStop connected (TooManyClients held) = (connected ≡ 16) × (held ≡ 16)
IsConnectStop connected OutOfMemory = connected < 16

-- ---- commands

-- how many steps a client has made
abbrev pub steps_made : Client → ℕ
steps_made p = length (steps_in p.own)

-- the journal's entry of an answered command
abbrev pub entry_of_answer : ℕ → Command → Answer → JournalEntry
entry_of_answer client command answer = record { number = answer.number; client = client; command = command; reply = answer.reply }

-- the pass after an answered command: its calls have grown by this step, and it has seen the step's number
abbrev pub answered_pass : PassView → Command → Answer → PassView
answered_pass pass command answer = record pass { client = stepped (entry_of_answer pass.client.number command answer) pass.client }

-- a closed turn of a client's command, with a log
abbrev pub turn_of : ℕ → Command → Reply → List Item → Closed
turn_of client command reply log = record { client = client; command = command; reply = reply; log = log }

-- The answer has the next number and the reply of the step in the state of the closed turns so far. Of the desk, the closed turns
-- and the journal have grown by this one, and the server is at rest; its screen, its clients with their limits, and the words that its settles
-- found are as before.
pub record HasAnswered (before after : DeskView) (client : ℕ) (command : Command) (answer : Answer) : Type 0 where
  pub number : answer.number ≡ length before.server.closed + 1
  pub reply : answer.reply ≡ (step before.screen.setting.size (state_in before) client command).1
  pub screen : after.screen ≡ before.screen
  pub limits : after.server.limits ≡ before.server.limits
  pub log : List Item
  pub closed : after.server.closed ≡ before.server.closed ++ turn_of client command answer.reply log ∷ []
  pub journal : journal_in after ≡ journal_in before ++ entry_of_answer client command answer ∷ []
  pub turned : after.server.turned ≡ before.server.turned
  pub resting : after.server.mode ≡ Resting

-- Want of memory. The journal is full exactly where the client has made as many steps as its limit, which is the number held. The
-- server isn't let in where its settle found another word than 2^32: the gate stays closed. After the first two it isn't. Nothing
-- else of the desk has changed.
abbrev pub HasStopped : DeskView → DeskView → Client → CallStop → Type 0
HasStopped before after p CallOutOfMemory = after ≡ withdrawn_desk before
HasStopped before after p (JournalFull held) = (steps_made p ≡ p.step_limit) × (held ≡ p.step_limit) × (after ≡ withdrawn_desk before)
HasStopped before after p (Busy found) = (steps_made p < p.step_limit) × (found ≢ closed_gate) × (after ≡ shut_out_desk before found)

-- ---- waiting

-- The same after the server was shut out by the words found, as often as painters were in; none of them is 2^32.
pub record HasAnsweredLater (before after : DeskView) (client : ℕ) (command : Command) (answer : Answer) : Type 0 where
  pub mode : ServerMode
  pub found : List ℕ
  pub others : All (λ n. n ≢ closed_gate) found
  pub answered : HasAnswered (record before { server = record before.server { mode = mode; turned = before.server.turned ++ found } }) after client command answer

-- A call that waits stops for want of memory, or with a full journal alone.
abbrev pub HasHalted : DeskView → DeskView → Client → CallStop → Type 0
HasHalted before after p CallOutOfMemory = after ≡ withdrawn_desk before
HasHalted before after p (JournalFull held) = (steps_made p ≡ p.step_limit) × (held ≡ p.step_limit) × (after ≡ withdrawn_desk before)
HasHalted before after p (Busy found) = ⊥

-- ---- closing

-- so many passes, which isn't the number connected; want of memory comes only where it is
abbrev pub IsCloseStop : ℕ → ℕ → CloseStop → Type 0
IsCloseStop held wanted (Missing h w) = (held ≢ wanted) × (h ≡ held) × (w ≡ wanted)
IsCloseStop held wanted CloseOutOfMemory = held ≡ wanted

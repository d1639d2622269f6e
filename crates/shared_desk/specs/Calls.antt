-- What a call through the shared desk answers.
use Rattle.std.specs.Prelude.{◌≡◌, ℕ, ◌+◌, List, length}
use Rattle.qws_base.specs.Sides.{Sides}
use Rattle.qws_base.specs.Steps.{step}
use Rattle.qws_base.specs.declared.commands.Command.{Command}
use Rattle.fb_words.specs.declared.known.Client.{Client}
use Rattle.fb_words.specs.declared.known.Closed.{Closed}
use Rattle.fb_words.specs.Desks.{state_after}
use Rattle.server_desk.specs.Answers.{steps_made}
use Rattle.server_desk.specs.declared.answers.Answer.{Answer}
use Rattle.shared_desk.specs.declared.calls.SharedStop.{SharedStop}
use Rattle.shared_desk.specs.declared.calls.SharedStop.TheVariants.{JournalFull, OutOfMemory}

-- the reply is the one to the client's command in the state after the turns that were closed before, and the number counts them and it
pub record IsAnsweredIn (size : Sides) (client : ℕ) (command : Command) (answer : Answer) : Type 0 where
  pub closed : List Closed
  pub number : answer.number ≡ length closed + 1
  pub reply : answer.reply ≡ (step size (state_after size closed) client command).1

-- the client has made as many calls as its step limit, which is the number held; or there was no memory
abbrev pub SharedStopsAt : Client → SharedStop → Type 0
SharedStopsAt p (JournalFull held) = (steps_made p ≡ p.step_limit) × (held ≡ p.step_limit)
SharedStopsAt p OutOfMemory = Unit {0}

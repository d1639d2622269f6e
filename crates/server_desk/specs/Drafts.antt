-- What a command needs before its turn.
use Rattle.std.specs.Prelude.{◌≡◌, ℕ}
use Rattle.qws_base.specs.declared.commands.Command.{Command}
use Rattle.fb_words.specs.Views.{HeadView, only}
use Rattle.fb_words.specs.Desks.{state_after}
use Rattle.window_core.specs.CoreViews.{CoreView, Belongs}
use Rattle.step_turns.specs.Changes.{AreChangesOf}
use Rattle.server_desk.specs.declared.calls.Draft.{Draft}
use Rattle.server_desk.specs.declared.answers.CallStop.{CallStop}
use Rattle.server_desk.specs.declared.answers.CallStop.TheVariants.{Busy, JournalFull, OutOfMemory}

-- the plan of a client's command for the present state, what it changes, and its reply
pub record IsDraftOf (core : CoreView) (client : ℕ) (command : Command) (draft : Draft) : Type 0 where
  pub belongs : Belongs core.size draft.plan core.state
  pub client_is : draft.plan.client ≡ client
  pub command_is : draft.plan.command ≡ command
  pub changes : AreChangesOf core draft.plan draft.changes
  pub reply : draft.reply ≡ draft.plan.reply

-- the state after all closed turns
abbrev pub core_in : HeadView → CoreView
core_in h = record { size = h.screen.setting.size; backdrop = h.screen.setting.backdrop; state = state_after h.screen.setting.size h.server.closed }

-- the draft of a command of the one client that sits
abbrev pub IsDraftFor : HeadView → Command → Draft → Type 0
IsDraftFor h command draft = IsDraftOf (core_in h) (only h.sitting).number command draft

-- want of memory, or no step is left; the server wasn't asked
abbrev pub HasNoDraft : ℕ → ℕ → CallStop → Type 0
HasNoDraft made left OutOfMemory = Unit {0}
HasNoDraft made left (JournalFull held) = (left ≡ 0) × (held ≡ made)
HasNoDraft made left (Busy found) = ⊥

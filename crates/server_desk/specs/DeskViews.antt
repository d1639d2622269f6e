-- What contracts see of a desk and of a session that was closed.
use Rattle.std.specs.Prelude.{ℕ, List, [], ◌∷◌, ◌++◌, length}
use Rattle.qws_base.specs.Sides.{Sides}
use Rattle.qws_base.specs.States.{State}
use Rattle.qws_base.specs.Books.{BookView}
use Rattle.qws_base.specs.declared.journals.JournalEntry.{JournalEntry}
use Rattle.fb_words.specs.declared.known.Server.{Server}
use Rattle.fb_words.specs.declared.known.ServerMode.TheVariants.{Closing}
use Rattle.fb_words.specs.Views.{ScreenView}
use Rattle.fb_words.specs.Steps.{with_limit}
use Rattle.fb_words.specs.Desks.{journal_of, state_after}
use Rattle.display_lock.specs.Turns.{rested}

-- of which screen, and what its server part knows
pub record DeskView : Type 0 where
  pub screen : ScreenView
  pub server : Server

-- a session: the size of its screen, the picture that was shown, the journal, and the books by client number
pub record ClosedView : Type 0 where
  pub size : Sides
  pub shown : List ℕ
  pub journal : List JournalEntry
  pub books : List BookView

-- the closed turns of the server, with their numbers
abbrev pub journal_in : DeskView → List JournalEntry
journal_in d = journal_of d.server.closed

-- how many clients are connected
abbrev pub connected : DeskView → ℕ
connected d = length d.server.limits

-- the state of the server
abbrev pub state_in : DeskView → State
state_in d = state_after d.screen.setting.size d.server.closed

-- one client more, with that step limit
abbrev pub with_client : DeskView → ℕ → DeskView
with_client d limit = record d { server = with_limit d.server limit }

-- not announced any more
abbrev pub withdrawn_desk : DeskView → DeskView
withdrawn_desk d = record d { server = record d.server { mode = rested d.server.mode } }

-- not let in by the word found: the gate stays closed
abbrev pub shut_out_desk : DeskView → ℕ → DeskView
shut_out_desk d found = record d { server = record d.server { mode = Closing; turned = d.server.turned ++ found ∷ [] } }

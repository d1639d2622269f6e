-- What `==` tells of the values of the server: whether they are the same.
use Rattle.std.specs.Prelude.{Bool, IsTrue, ◌≡◌, ◌↔◌}
use Rattle.qws_base.specs.contracts.commands.CommandPartialEq.TheImpl as command
use Rattle.qws_base.specs.contracts.replies.EventPartialEq.TheImpl as event
use Rattle.qws_base.specs.contracts.replies.ReplyPartialEq.TheImpl as reply
use Rattle.qws_base.specs.contracts.replies.RefusalPartialEq.TheImpl as refusal
use Rattle.qws_base.specs.contracts.replies.PaintReplyPartialEq.TheImpl as paint_reply
use Rattle.qws_base.specs.contracts.journals.JournalEntryPartialEq.TheImpl as journal_entry
use Rattle.qws_base.specs.contracts.journals.BookEntryPartialEq.TheImpl as book_entry
use Rattle.qws_base.specs.contracts.windows.WindowViewPartialEq.TheImpl as window
use Rattle.qws_base.specs.contracts.windows.CursorPartialEq.TheImpl as cursor

-- a test passes exactly where two values are the same
abbrev pub TellsSame : {X : Type 0} → (X → X → Bool) → Type 0
TellsSame {X} test = (a b : X) → IsTrue (test a b) ↔ (a ≡ b)

-- the test that `==` makes passes exactly where two values are the same
pub record EqualLaw : Type 0 where
  pub commands : TellsSame command.ghosts.eq
  pub events : TellsSame event.ghosts.eq
  pub replies : TellsSame reply.ghosts.eq
  pub refusals : TellsSame refusal.ghosts.eq
  pub paint_replies : TellsSame paint_reply.ghosts.eq
  pub journal_entries : TellsSame journal_entry.ghosts.eq
  pub book_entries : TellsSame book_entry.ghosts.eq
  pub windows : TellsSame window.ghosts.eq
  pub cursors : TellsSame cursor.ghosts.eq

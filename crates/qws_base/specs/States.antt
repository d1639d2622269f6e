-- The state of the server.
use Rattle.std.specs.Prelude.{ℕ, Bool, true, false, List, [], map, slice_index_or, Option, None, Some}
use Rattle.std.specs.List.{range_with_len}
use Rattle.qws_base.specs.Mail.{Mail, opening_mail}
use Rattle.qws_base.specs.declared.windows.WindowView.{WindowView}
use Rattle.qws_base.specs.declared.windows.Cursor.{Cursor}
use Rattle.qws_base.specs.declared.commands.Command.{Command}
use Rattle.qws_base.specs.declared.commands.Command.TheVariants.{Create, Destroy, Region, Move, Raise, Lower, CursorShape, CursorMove, CursorShow, Join, Leave, Send, Take, IsRegistered}
use Rattle.qws_base.specs.declared.replies.Reply.{Reply}
use Rattle.qws_base.specs.declared.replies.Reply.TheVariants.{Created, Done, Sent, Registered, Event, Refused}

-- the windows from front to back, the cursor, channels and mailboxes, and the revision of slot i at place i
pub record State : Type 0 where
  pub windows : List WindowView
  pub cursor : Cursor
  pub mail : Mail
  pub revisions : List ℕ

-- hidden, at (0, 0), without cells
abbrev pub opening_cursor : Cursor
opening_cursor = record { x = 0; y = 0; w = 0; h = 0; cells = []; shown = false }

-- 1 for each of the 32 slots
unfoldable pub opening_revisions : List ℕ
opening_revisions = map (λ slot. 1) (range_with_len 0 32)

abbrev pub opening_state : State
opening_state = record { windows = []; cursor = opening_cursor; mail = opening_mail; revisions = opening_revisions }

-- the revision of a slot; 1 past the last slot
abbrev pub revision_of : State → ℕ → ℕ
revision_of state slot = slice_index_or state.revisions slot 1

-- ---- what a reply and a command tell of a step

abbrev pub is_refused : Reply → Bool
is_refused (Created slot) = false
is_refused Done = false
is_refused (Sent to) = false
is_refused (Registered known) = false
is_refused (Event event) = false
is_refused (Refused cause) = true

-- the slot that a command moves
abbrev pub moved_slot : Command → Option ℕ
moved_slot (Create layer) = None
moved_slot (Destroy slot) = None
moved_slot (Region slot origin rects) = None
moved_slot (Move slot origin) = Some slot
moved_slot (Raise slot) = None
moved_slot (Lower slot) = None
moved_slot (CursorShape w h cells) = None
moved_slot (CursorMove x y) = None
moved_slot (CursorShow shown) = None
moved_slot (Join channel) = None
moved_slot (Leave channel) = None
moved_slot (Send channel message payload) = None
moved_slot Take = None
moved_slot (IsRegistered channel) = None

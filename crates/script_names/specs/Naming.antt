-- For which slots the names of a client stand: each for that of the latest `create` of the name that was answered Created.
use Rattle.std.specs.Prelude.{ℕ, List, [], ◌∷◌, if◌then◌else◌}
use Rattle.std.specs.Str.{bytes_eq}
use Rattle.qws_base.specs.Histories.{Entry}
use Rattle.qws_base.specs.Histories.Entry.{Step as StepEntry, Paint as PaintEntry}
use Rattle.qws_base.specs.declared.replies.Reply.{Reply}
use Rattle.qws_base.specs.declared.replies.Reply.TheVariants.{Created, Done, Sent, Registered, Event, Refused}
use Rattle.script_grammar.specs.declared.lines.Window.{Window}
use Rattle.script_grammar.specs.declared.lines.Window.TheVariants.{Named, Numbered}
use Rattle.script_grammar.specs.declared.lines.LineCall.{LineCall}
use Rattle.script_grammar.specs.declared.lines.LineCall.TheVariants.{Create, Destroy, Region, Move, Raise, Lower, Shape, Cursor, Show, Join, Leave, Send, Take, Known, Fill, Tile, Blit, Line, Polyline, Polygon, Text}
use Rattle.script_grammar.specs.declared.lines.CallLine.{CallLine}

-- the slot of each name
abbrev pub Naming : Type 0
Naming = List ℕ → ℕ

-- no name was given: each stands for slot 32, which is no window's
abbrev pub no_names : Naming
no_names name = 32

-- that name stands for that slot, and each other name for what it did
abbrev pub with_name : Naming → List ℕ → ℕ → Naming
with_name slots name slot other = if bytes_eq other name then slot else slots other

-- by a table of names and slots, no name twice
abbrev pub naming : List (List ℕ × ℕ) → Naming
naming [] = no_names
naming (given ∷ more) = with_name (naming more) given.0 given.1

-- after the reply to a `create` of that name
abbrev pub named : Naming → List ℕ → Reply → Naming
named slots name (Created slot) = with_name slots name slot
named slots name Done = slots
named slots name (Sent to) = slots
named slots name (Registered known) = slots
named slots name (Event event) = slots
named slots name (Refused cause) = slots

-- after the reply to a call: a `create` alone gives a name, and a `destroy` takes none away
abbrev pub learned : Naming → LineCall → Reply → Naming
learned slots (Create name layer) reply = named slots name reply
learned slots (Destroy window) reply = slots
learned slots (Region window origin rects) reply = slots
learned slots (Move window origin) reply = slots
learned slots (Raise window) reply = slots
learned slots (Lower window) reply = slots
learned slots (Shape w h cells) reply = slots
learned slots (Cursor at) reply = slots
learned slots (Show shown) reply = slots
learned slots (Join channel) reply = slots
learned slots (Leave channel) reply = slots
learned slots (Send channel message payload) reply = slots
learned slots Take reply = slots
learned slots (Known channel) reply = slots
learned slots (Fill window rect ink) reply = slots
learned slots (Tile window rect image) reply = slots
learned slots (Blit window at image alpha) reply = slots
learned slots (Line window from to colour) reply = slots
learned slots (Polyline window colour points) reply = slots
learned slots (Polygon window ink points) reply = slots
learned slots (Text window font at ink written) reply = slots

-- the same with the entry of the call in a history: a paint gives no name
abbrev pub learned_by_entry : Naming → LineCall → Entry → Naming
learned_by_entry slots call (StepEntry client command reply) = learned slots call reply
learned_by_entry slots call (PaintEntry client slot tag sheet reply) = slots

-- after the first of a client's calls, with an entry for each of these
abbrev pub names_after : Naming → List CallLine → List Entry → Naming
names_after slots [] entries = slots
names_after slots (line ∷ lines) [] = slots
names_after slots (line ∷ lines) (entry ∷ entries) = names_after (learned_by_entry slots line.call entry) lines entries

-- the slot of a window: that of its name, or its number
abbrev pub window_slot : Naming → Window → ℕ
window_slot slots (Named name) = slots name
window_slot slots (Numbered slot) = slot

-- The words that spell the table of a state are a table, and tables of which one follows the other.
use Rattle.std.specs.Prelude.{◌≡◌, ◌≢◌, ℕ, ◌^◌, ◌<◌, ◌≤◌, ◌⊎◌, List, [], length, slice_index, All, true, None}
use Rattle.qws_base.specs.Sides.{Sides, IsScreen}
use Rattle.qws_base.specs.Points.{IsPlaced}
use Rattle.qws_base.specs.Shown.{IsShape}
use Rattle.qws_base.specs.Scenes.{Setting}
use Rattle.qws_base.specs.States.{State, revision_of, is_refused, moved_slot}
use Rattle.qws_base.specs.declared.commands.Command.{Command}
use Rattle.qws_base.specs.declared.replies.Reply.{Reply}
use Rattle.region_table.specs.Numbers.{IsTableWord}
use Rattle.region_table.specs.Tables.{row_of, IsSpellable}
use Rattle.region_table.specs.Spelling.{Spell}
use Rattle.region_table.specs.Published.{IsTableOf}
use Rattle.region_table.specs.declared.tables.Table.{Table}
use Rattle.region_table.specs.Opening.{opening_table as first_table}
use Rattle.turn_logs.specs.Tables.{opening_table, table_of, IsTable, Follows}
use Rattle.qws_base.specs.Sheets.{Sheet}
use Rattle.qws_base.specs.declared.replies.PaintReply.TheVariants.{Gone}
use Rattle.turn_logs.specs.declared.items.Item.{Item}
use Rattle.turn_logs.specs.Lines.{OnlyPicks}
use Rattle.turn_logs.specs.Carries.{CarriesStep, CarriesPaintUnder}

-- the ranges of a state whose table can stand in the words
pub record IsPublishable (size : Sides) (admitted : ℕ) (state : State) (table : Table) : Type 0 where
  -- windows are of admitted clients
  pub owners : All (λ w. w.owner < admitted) state.windows
  pub placed : All (λ w. IsPlaced w.origin) state.windows
  pub revisions : (slot : ℕ) → slot < 32 → 1 ≤ revision_of state slot
  pub few : (slot : ℕ) → slot < 32 → length (row_of table slot).rects ≤ 256
  -- the cursor's place is on the screen
  pub in_columns : state.cursor.x < size.w
  pub in_rows : state.cursor.y < size.h
  pub shape : IsShape state.cursor
  pub cells : All (λ cell. cell < 2 ^ 32) state.cursor.cells

-- The opening words spell the opening table. Words that spell the table of a state within these ranges are a table, and are
-- read as that one.
pub record PublishLaw : Type 0 where
  pub opens : Spell (slice_index opening_table) first_table × IsSpellable first_table
  pub published : (size : Sides) (admitted stamp : ℕ) (state : State) (table : Table) (words : List ℕ) → IsScreen size → IsTableOf size state stamp table → IsPublishable size admitted state table
      → Spell (slice_index words) table → IsTable size admitted stamp words × IsSpellable table × (table_of words ≡ table)

-- each row is equal, or has a greater revision
abbrev pub RowsFollow : Table → Table → Type 0
RowsFollow before after = (slot : ℕ) → slot < 33 → (row_of before slot ≡ row_of after slot) ⊎ ((row_of before slot).revision < (row_of after slot).revision)

-- words that spell two such tables follow each other
abbrev pub FollowLaw : Type 0
FollowLaw = (before after : Table) (t u : List ℕ) → IsSpellable before → IsSpellable after → RowsFollow before after → Spell (slice_index t) before → Spell (slice_index u) after → Follows t u

-- ---- a turn that puts nothing

-- the words but the stamp are as they were
abbrev pub SameButStamp : List ℕ → List ℕ → Type 0
SameButStamp t u = (i : ℕ) → IsTableWord i → i ≢ 1 → slice_index u i ≡ slice_index t i

-- the opening words are a table, for any number of admitted clients; words with another stamp are a table with that stamp, have
-- the same cursor, and follow what the words followed; and a table follows itself
pub record StampLaw : Type 0 where
  pub opens : (size : Sides) (admitted : ℕ) → IsScreen size → IsTable size admitted 0 opening_table
  pub table : (size : Sides) (admitted n m : ℕ) (t u : List ℕ) → IsTable size admitted n t → slice_index u 1 ≡ m → SameButStamp t u → IsTable size admitted m u
  pub cursor : (size : Sides) (admitted n : ℕ) (t u : List ℕ) → IsTable size admitted n t → SameButStamp t u → (table_of t).cursor ≡ (table_of u).cursor
  pub follows : (size : Sides) (admitted n : ℕ) (before t u : List ℕ) → IsTable size admitted n t → SameButStamp t u → Follows before t → Follows before u
  pub itself : (t : List ℕ) → Follows t t

pub record StillLaw : Type 0 where
  -- words with another stamp spell the table with that stamp
  pub restamped : (table : Table) (stamp : ℕ) (t u : List ℕ) → Spell (slice_index t) table → slice_index u 1 ≡ stamp → SameButStamp t u → Spell (slice_index u) (record table { stamp = stamp })
  -- a log without a Put carries a command that is refused, or moves no window, where the rows and the cursor stay
  pub carried : (setting : Setting) (before after : Table) (command : Command) (reply : Reply) (log : List Item) → OnlyPicks log → before.rows ≡ after.rows → before.cursor ≡ after.cursor
      → (is_refused reply ≡ true) ⊎ (moved_slot command ≡ None) → CarriesStep setting before after command reply log
  -- of a refused command the rows don't matter
  pub refused : (setting : Setting) (before after : Table) (command : Command) (reply : Reply) (log : List Item) → OnlyPicks log → before.cursor ≡ after.cursor
      → is_refused reply ≡ true → CarriesStep setting before after command reply log
  -- an empty log carries a paint that is gone
  pub gone : (setting : Setting) (table : Table) (slot : ℕ) (sheet : Sheet) → CarriesPaintUnder setting table slot sheet Gone []

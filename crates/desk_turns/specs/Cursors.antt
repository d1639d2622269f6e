-- The cursor of a table that a planned step publishes.
use Rattle.std.specs.Prelude.{◌≡◌, ℕ, List, length, slice_index}
use Rattle.qws_base.specs.declared.windows.Cursor.{Cursor}
use Rattle.region_table.specs.Spelling.{Spell}
use Rattle.region_table.specs.declared.tables.Table.{Table}

-- the same place, both shown or both hidden
pub record SamePlace (a b : Cursor) : Type 0 where
  pub x : a.x ≡ b.x
  pub y : a.y ≡ b.y
  pub shown : a.shown ≡ b.shown

pub record SameShape (a b : Cursor) : Type 0 where
  pub w : a.w ≡ b.w
  pub h : a.h ≡ b.h
  pub cells : a.cells ≡ b.cells

-- a cursor with the place of another
abbrev pub at_place_of : Cursor → Cursor → Cursor
at_place_of cursor other = record cursor { x = other.x; y = other.y; shown = other.shown }

-- words that spelled a table with the one cursor spell it with the other
pub record Respells (old new : Cursor) (before after : List ℕ) : Type 0 where
  pub long : length after ≡ length before
  pub spells : (table : Table) → table.cursor ≡ old → Spell (slice_index before) table → Spell (slice_index after) (record table { cursor = new })

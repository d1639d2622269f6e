-- Words of the published table that are set, and the table that is spelled then.
use Rattle.std.specs.Prelude.{◌≡◌, ℕ, ◌+◌, ◌*◌, ◌/◌, ◌%◌, ◌<◌, ◌≤◌, ◌==◌, ◌⊎◌, List, length, Option, slice_index, slice_set, if◌then◌else◌}
use Rattle.qws_base.specs.declared.points.Point.{Point}
use Rattle.qws_base.specs.declared.points.Rect.{Rect}
use Rattle.qws_base.specs.declared.windows.Cursor.{Cursor}
use Rattle.region_table.specs.Numbers.{stamp_at, place_at, shape_at, first_cell, row_word}
use Rattle.region_table.specs.Tables.{owner_word, origin_word, place_word, shape_word, cell_value, row_word_of}
use Rattle.region_table.specs.Spelling.{Spell}
use Rattle.region_table.specs.declared.tables.Row.{Row}
use Rattle.region_table.specs.declared.tables.Table.{Table}
use Rattle.fb_words.specs.Views.{HeadView}

-- nothing but the present table has changed
abbrev pub OnlyTable : HeadView → HeadView → Type 0
OnlyTable h h' = h' ≡ record h { server = record h.server { present = h'.server.present } }

-- so many words from the first on are set to these values, by place; all others stay
pub record Sets (first count : ℕ) (values : ℕ → ℕ) (before after : List ℕ) : Type 0 where
  pub long : length after ≡ length before
  pub set : (k : ℕ) → k < count → slice_index after (first + k) ≡ values k
  pub others : (i : ℕ) → (i < first) ⊎ (first + count ≤ i) → slice_index after i ≡ slice_index before i

-- ---- rows

abbrev pub made_row : Option ℕ → ℕ → Point → List Rect → Row
made_row owner revision origin rects = record { owner = owner; revision = revision; origin = origin; rects = rects }

-- the words of a row before its rectangles
abbrev pub head_words : Option ℕ → ℕ → Point → ℕ → ℕ → ℕ
head_words owner revision origin count k = if k == 0 then owner_word owner else if k == 1 then revision else if k == 2 then origin_word origin else count

-- the table with another row for a slot
abbrev pub with_row : Table → ℕ → Row → Table
with_row table slot row = record table { rows = slice_set table.rows slot row }

-- ---- the cursor

-- the cell with that number, by rows of 32
abbrev pub nth_cell : Cursor → ℕ → ℕ
nth_cell cursor k = cell_value cursor (k % 32) (k / 32)

-- the sides are set, and the cells of all rows of the shape and of one of so many rows
pub record SetsShape (cursor : Cursor) (rows : ℕ) (before after : List ℕ) : Type 0 where
  pub between : List ℕ
  pub most : ℕ
  pub of_shape : cursor.h ≤ most
  pub of_other : rows ≤ most
  pub few : most ≤ 32
  pub sides : Sets shape_at 1 (λ k. shape_word cursor) before between
  pub cells : Sets first_cell (32 * most) (nth_cell cursor) between after

-- ---- the table that is spelled

pub record WrittenLaw : Type 0 where
  pub stamp : (table : Table) (n : ℕ) (t u : List ℕ) → Spell (slice_index t) table → Sets stamp_at 1 (λ k. n) t u → Spell (slice_index u) (record table { stamp = n })
  pub row : (table : Table) (slot : ℕ) (row : Row) (t u : List ℕ) → slot < length table.rows → length row.rects ≤ 256 → Spell (slice_index t) table
      → Sets (row_word slot) (4 + length row.rects) (row_word_of row) t u → Spell (slice_index u) (with_row table slot row)
  -- a cursor at another place, or shown now and hidden before
  pub place : (table : Table) (cursor : Cursor) (t u : List ℕ) → cursor.w ≡ table.cursor.w → cursor.h ≡ table.cursor.h → cursor.cells ≡ table.cursor.cells → Spell (slice_index t) table
      → Sets place_at 1 (λ k. place_word cursor) t u → Spell (slice_index u) (record table { cursor = cursor })
  -- a cursor with another shape at the same place
  pub shape : (table : Table) (cursor : Cursor) (t u : List ℕ) → place_word cursor ≡ place_word table.cursor → Spell (slice_index t) table
      → SetsShape cursor table.cursor.h t u → Spell (slice_index u) (record table { cursor = cursor })

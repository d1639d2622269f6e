-- A table, the words that spell it, and the table that words spell.
use Rattle.std.specs.Prelude.{◌≡◌, ℕ, ◌+◌, ◌-◌, ◌*◌, ◌/◌, ◌%◌, ◌^◌, ◌<◌, ◌≤◌, nat_lt, ◌==◌, ◌&&◌, pos, ◌+ℤ◌, ◌-ℤ◌, nat_abs, List, [], map, length, All, Option, None, Some, slice_index, slice_index_or, if◌then◌else◌}
use Rattle.std.specs.List.{range_with_len}
use Rattle.qws_base.specs.Points.{origin_zero, IsPlaced}
use Rattle.qws_base.specs.Shown.{IsShape, cell_at}
use Rattle.qws_base.specs.declared.points.Point.{Point}
use Rattle.qws_base.specs.declared.windows.Cursor.{Cursor}
use Rattle.region_table.specs.Numbers.{stamp_at, place_at, shape_at, first_cell, first_row, row_size, row_word, cell_word}
use Rattle.region_table.specs.Packing.{IsPackable, packed, unpacked}
use Rattle.region_table.specs.declared.tables.Row.{Row}
use Rattle.region_table.specs.declared.tables.Table.{Table}

-- a slot without a window that never had one: no owner, no pixels
abbrev pub no_row : Row
no_row = record { owner = None; revision = 1; origin = origin_zero; rects = [] }

-- the row of a slot; a slot past the table's end has no owner and no pixels
abbrev pub row_of : Table → ℕ → Row
row_of table slot = slice_index_or table.rows slot no_row

-- ---- what the words hold

abbrev pub owner_word : Option ℕ → ℕ
owner_word None = 0
owner_word (Some client) = client + 1

-- both coordinates with an offset of 32,768
abbrev pub origin_word : Point → ℕ
origin_word p = nat_abs (p.x +ℤ pos 32768) + nat_abs (p.y +ℤ pos 32768) * 2 ^ 16

-- the cursor's place, and whether it is shown
abbrev pub place_word : Cursor → ℕ
place_word cursor = cursor.x + cursor.y * 2 ^ 16 + (if cursor.shown then 2 ^ 32 else 0)

-- the sides of its shape
abbrev pub shape_word : Cursor → ℕ
shape_word cursor = cursor.w + cursor.h * 2 ^ 16

-- the cell in a column and a row; 0 outside the shape
abbrev pub cell_value : Cursor → ℕ → ℕ → ℕ
cell_value cursor column row = if nat_lt column cursor.w && nat_lt row cursor.h then cell_at cursor (column, row) else 0

-- the words 1 to 1,027
abbrev pub head_word_of : Table → ℕ → ℕ
head_word_of table index =
    if index == stamp_at then table.stamp
    else if index == place_at then place_word table.cursor
    else if index == shape_at then shape_word table.cursor
    else cell_value table.cursor ((index - first_cell) % 32) ((index - first_cell) / 32)

-- the words of a row, counted from its first; 0 past the last rectangle
abbrev pub row_word_of : Row → ℕ → ℕ
row_word_of row k =
    if k == 0 then owner_word row.owner
    else if k == 1 then row.revision
    else if k == 2 then origin_word row.origin
    else if k == 3 then length row.rects
    else slice_index (map packed row.rects) (k - 4)

-- the word of a table with that number
abbrev pub word_of_table : Table → ℕ → ℕ
word_of_table table index =
    if nat_lt index first_row then head_word_of table index else row_word_of (row_of table ((index - first_row) / row_size)) ((index - first_row) % row_size)

-- ---- what has a place in the words

-- its place is on the largest screen
pub record IsCursor (cursor : Cursor) : Type 0 where
  pub shape : IsShape cursor
  pub in_columns : cursor.x < 640
  pub in_rows : cursor.y < 480

pub record IsSpellableRow (row : Row) : Type 0 where
  pub placed : IsPlaced row.origin
  pub few : length row.rects ≤ 256
  pub packable : All IsPackable row.rects

pub record IsSpellable (table : Table) : Type 0 where
  pub cursor : IsCursor table.cursor
  pub whole : length table.rows ≡ 33
  pub rows : All IsSpellableRow table.rows

-- ---- the table that words spell, by number

abbrev pub owner_from : ℕ → Option ℕ
owner_from word = if word == 0 then None else Some (word - 1)

abbrev pub origin_from : ℕ → Point
origin_from word = record { x = pos (word % 2 ^ 16) -ℤ pos 32768; y = pos (word / 2 ^ 16) -ℤ pos 32768 }

-- the rectangle words past the number of rectangles say nothing
abbrev pub row_from : (ℕ → ℕ) → ℕ → Row
row_from words slot = record {
  owner = owner_from (words (row_word slot));
  revision = words (row_word slot + 1);
  origin = origin_from (words (row_word slot + 2));
  rects = map (λ j. unpacked (words (row_word slot + 4 + j))) (range_with_len 0 (words (row_word slot + 3)));
}

-- the cells of a shape of that width and height, by rows
unfoldable pub cells_from : (ℕ → ℕ) → ℕ → ℕ → List ℕ
cells_from words w h = map (λ k. words (cell_word (k % w) (k / w))) (range_with_len 0 (w * h))

abbrev pub cursor_from : (ℕ → ℕ) → Cursor
cursor_from words = record {
  x = words place_at % 2 ^ 16;
  y = words place_at / 2 ^ 16 % 2 ^ 16;
  w = words shape_at % 2 ^ 16;
  h = words shape_at / 2 ^ 16;
  cells = cells_from words (words shape_at % 2 ^ 16) (words shape_at / 2 ^ 16);
  shown = words place_at / 2 ^ 32 == 1;
}

unfoldable pub rows_from : (ℕ → ℕ) → List Row
rows_from words = map (row_from words) (range_with_len 0 33)

abbrev pub table_from : (ℕ → ℕ) → Table
table_from words = record { stamp = words stamp_at; cursor = cursor_from words; rows = rows_from words }

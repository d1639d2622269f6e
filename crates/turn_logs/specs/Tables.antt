-- The table words, by word number: a list that begins at word 0, of which words 1 to 1,027 and 2,052 to 10,631 say something.
use Rattle.std.specs.Prelude.{◌≡◌, ℕ, ◌+◌, ◌/◌, ◌%◌, ◌^◌, ◌<◌, ◌≤◌, true, pos, ◌≤ℤ◌, ◌⊎◌, List, map, slice_index}
use Rattle.std.specs.List.{range_with_len}
use Rattle.qws_base.specs.Sides.{Sides}
use Rattle.qws_base.specs.Points.{holds, point_of, pixel_count, IsPlaced}
use Rattle.qws_base.specs.Regions.{HasPixels, right, bottom}
use Rattle.qws_base.specs.declared.points.Rect.{Rect}
use Rattle.region_table.specs.Numbers.{place_at, shape_at, stamp_at, first_cell, first_saved, first_pixel, row_word}
use Rattle.region_table.specs.Packing.{unpacked}
use Rattle.region_table.specs.Tables.{origin_from, table_from}
use Rattle.region_table.specs.declared.tables.Table.{Table}
use Rattle.region_table.specs.Opening.{opening_word}

-- the first n words at the opening
abbrev pub opening_words : ℕ → List ℕ
opening_words n = map opening_word (range_with_len 0 n)

unfoldable pub opening_table : List ℕ
opening_table = opening_words first_pixel

-- the table that the words spell
abbrev pub table_of : List ℕ → Table
table_of t = table_from (slice_index t)

-- ---- rows

abbrev pub owner_in : List ℕ → ℕ → ℕ
owner_in t s = slice_index t (row_word s)

abbrev pub revision_in : List ℕ → ℕ → ℕ
revision_in t s = slice_index t (row_word s + 1)

abbrev pub origin_in : List ℕ → ℕ → ℕ
origin_in t s = slice_index t (row_word s + 2)

abbrev pub count_in : List ℕ → ℕ → ℕ
count_in t s = slice_index t (row_word s + 3)

abbrev pub rect_in : List ℕ → ℕ → ℕ → ℕ
rect_in t s j = slice_index t (row_word s + 4 + j)

-- the rectangle in a word has the pixel
abbrev pub RectHas : Sides → ℕ → ℕ → Type 0
RectHas size word p = holds (unpacked word) (point_of size.w p) ≡ true

-- rectangle j of the slot's row has the pixel
abbrev pub RowHas : Sides → List ℕ → ℕ → ℕ → ℕ → Type 0
RowHas size t s j p = (j < count_in t s) × RectHas size (rect_in t s j) p

-- it isn't empty, and lies on the screen
pub record IsOnScreen (size : Sides) (r : Rect) : Type 0 where
  pub some_pixels : HasPixels r
  pub from_left : pos 0 ≤ℤ r.x
  pub from_top : pos 0 ≤ℤ r.y
  pub to_right : right r ≤ℤ pos size.w
  pub to_bottom : bottom r ≤ℤ pos size.h

-- ---- the cursor

-- the place is on the screen; the cursor is shown or not; it has no cells, or 1 to 32 columns and rows of them
pub record IsCursorIn (size : Sides) (t : List ℕ) : Type 0 where
  pub in_columns : slice_index t place_at % 2 ^ 16 < size.w
  pub in_rows : slice_index t place_at / 2 ^ 16 % 2 ^ 16 < size.h
  pub shown : slice_index t place_at / 2 ^ 32 ≤ 1
  pub sides : ((1 ≤ slice_index t shape_at % 2 ^ 16) × (1 ≤ slice_index t shape_at / 2 ^ 16)) ⊎ ((slice_index t shape_at % 2 ^ 16 ≡ 0) × (slice_index t shape_at / 2 ^ 16 ≡ 0))
  pub few_columns : slice_index t shape_at % 2 ^ 16 ≤ 32
  pub few_rows : slice_index t shape_at / 2 ^ 16 ≤ 32
  pub cells : (i : ℕ) → first_cell ≤ i → i < first_saved → slice_index t i < 2 ^ 32

-- ---- tables

-- A table with that stamp. Rectangles don't overlap, whichever rows they are of; an owner word is 0 or one more than an
-- admitted number.
pub record IsTable (size : Sides) (admitted stamp : ℕ) (t : List ℕ) : Type 0 where
  pub stamp_is : slice_index t stamp_at ≡ stamp
  pub revisions : (s : ℕ) → s < 33 → 1 ≤ revision_in t s
  pub few : (s : ℕ) → s < 33 → count_in t s ≤ 256
  pub inside : (s j : ℕ) → s < 33 → j < count_in t s → IsOnScreen size (unpacked (rect_in t s j))
  pub apart : (s r j k p : ℕ) → s < 33 → r < 33 → p < pixel_count size → RowHas size t s j p → RowHas size t r k p → (s ≡ r) × (j ≡ k)
  pub owners : (s : ℕ) → s < 33 → owner_in t s ≤ admitted
  pub unowned : (s : ℕ) → s < 33 → owner_in t s ≡ 0 → count_in t s ≡ 0
  pub origins : (s : ℕ) → s < 33 → IsPlaced (origin_from (origin_in t s))
  pub cursor : IsCursorIn size t

-- two tables have the same row for the slot
pub record SameRow (t u : List ℕ) (s : ℕ) : Type 0 where
  pub owner : owner_in t s ≡ owner_in u s
  pub revision : revision_in t s ≡ revision_in u s
  pub origin : origin_in t s ≡ origin_in u s
  pub count : count_in t s ≡ count_in u s
  pub rects : (j : ℕ) → j < count_in t s → rect_in t s j ≡ rect_in u s j

-- from one table to the next, each row is the same or has a greater revision
abbrev pub Follows : List ℕ → List ℕ → Type 0
Follows t u = (s : ℕ) → s < 33 → (revision_in t s < revision_in u s) ⊎ SameRow t u s

-- The numbers of the shared words.
use Rattle.std.specs.Prelude.{◌≡◌, ℕ, ◌+◌, ◌-◌, ◌*◌, ◌/◌, ◌%◌, ◌<◌, ◌≤◌, ◌⊎◌, ◌==◌, nat_lt, Bool, true, false, Option, Some, None, if◌then◌else◌}

-- the gate; the stamp; the cursor's place, and its shape
abbrev pub gate_at : ℕ
gate_at = 0

abbrev pub stamp_at : ℕ
stamp_at = 1

abbrev pub place_at : ℕ
place_at = 2

abbrev pub shape_at : ℕ
shape_at = 3

-- the first cell of the cursor, the first saved pixel, the first row, and the first pixel of the framebuffer
abbrev pub first_cell : ℕ
first_cell = 4

abbrev pub first_saved : ℕ
first_saved = 1028

abbrev pub first_row : ℕ
first_row = 2052

abbrev pub first_pixel : ℕ
first_pixel = 10632

-- so many words has a row
abbrev pub row_size : ℕ
row_size = 260

-- the gate's word while the server has closed it, but for the painters
abbrev pub closed_gate : ℕ
closed_gate = 4294967296

-- the first word of a slot's row: its owner; its revision, origin, number of rectangles and the rectangles follow
abbrev pub row_word : ℕ → ℕ
row_word slot = first_row + row_size * slot

-- the pixel in the framebuffer
abbrev pub pixel_word : ℕ → ℕ
pixel_word p = first_pixel + p

-- the cursor's cell in a column and a row
abbrev pub cell_word : ℕ → ℕ → ℕ
cell_word column row = first_cell + 32 * row + column

-- the scene's pixel under that cell
abbrev pub saved_word : ℕ → ℕ → ℕ
saved_word column row = first_saved + 32 * row + column

-- ---- kinds of words

-- the table is the stamp, the cursor with its cells, and the rows
abbrev pub IsTableWord : ℕ → Type 0
IsTableWord index = ((1 ≤ index) × (index ≤ 1027)) ⊎ ((2052 ≤ index) × (index ≤ 10631))

abbrev pub is_table_word : ℕ → Bool
is_table_word index = if nat_lt index first_saved then nat_lt gate_at index else (if nat_lt index first_row then false else nat_lt index first_pixel)

-- a saved word or a framebuffer word
abbrev pub IsLineWord : ℕ → Type 0
IsLineWord index = ((first_saved ≤ index) × (index < first_row)) ⊎ (first_pixel ≤ index)

-- but for the gate, each word is a table word, or is a saved word or a framebuffer word
pub record KindLaw : Type 0 where
  pub table : (index : ℕ) → IsTableWord index → is_table_word index ≡ true
  pub line : (index : ℕ) → IsLineWord index → is_table_word index ≡ false
  pub back : (index : ℕ) → is_table_word index ≡ true → IsTableWord index
  pub other : (index : ℕ) → 1 ≤ index → is_table_word index ≡ false → IsLineWord index

-- the slot whose revision the word is
abbrev pub revision_of_slot : ℕ → Option ℕ
revision_of_slot index = if nat_lt index first_row then None else if (index - first_row) % row_size == 1 then Some ((index - first_row) / row_size) else None

-- Which pixel words a client may read and write in a turn.
use Rattle.std.specs.Prelude.{◌≡◌, ℕ, ◌+◌, ◌/◌, ◌%◌, ◌^◌, ◌<◌, ◌==◌, ◌⊎◌, List, [], Option, Some, slice_index}
use mathlib.Core.Option.{some}
use lib.ListN.{get_elem?}
use Rattle.qws_base.specs.Sides.{Sides}
use Rattle.qws_base.specs.Points.{point_of, pixel_count}
use Rattle.qws_base.specs.Shown.{cell_on}
use Rattle.qws_base.specs.declared.windows.Cursor.{Cursor}
use Rattle.region_table.specs.Numbers.{place_at, shape_at, row_word, pixel_word, saved_word}
use Rattle.turn_logs.specs.declared.items.Item.{Item}
use Rattle.fb_words.specs.declared.known.KeptClip.{KeptClip}
use Rattle.fb_words.specs.declared.known.Client.{Client}
use Rattle.turn_logs.specs.Lines.{item_word}
use Rattle.turn_logs.specs.Tables.{owner_in, RectHas, RowHas}
use Rattle.fb_words.specs.Clips.{look_of, stamp_in, slot_in, looked_in, kept, Sees}

-- ---- cells

-- a cursor by the words of its place and its shape; its cells don't matter here
abbrev pub cursor_at : ℕ → ℕ → Cursor
cursor_at place shape = record {
  x = place % 2 ^ 16;
  y = place / 2 ^ 16 % 2 ^ 16;
  w = shape % 2 ^ 16;
  h = shape / 2 ^ 16;
  cells = [];
  shown = place / 2 ^ 32 == 1;
}

-- the column and the row of the shown cell that lies on a pixel, by the words of the cursor's place and shape
abbrev pub cell_over : Sides → ℕ → ℕ → ℕ → Option (ℕ × ℕ)
cell_over size place shape p = cell_on (cursor_at place shape) (point_of size.w p)

-- the saved word of the shown cell that lies on the pixel
pub record IsSavedOver (size : Sides) (place shape p x : ℕ) : Type 0 where
  pub column : ℕ
  pub row : ℕ
  pub column_in : column < 32
  pub row_in : row < 32
  pub cell : cell_over size place shape p ≡ Some (column, row)
  pub word : x ≡ saved_word column row

-- the framebuffer word of the pixel, or the saved word over it
abbrev pub IsWordOf : Sides → ℕ → ℕ → ℕ → ℕ → Type 0
IsWordOf size place shape p x = (x ≡ pixel_word p) ⊎ IsSavedOver size place shape p x

-- ---- what a table gives a client

-- the table has the pixel in the slot's row, whose owner is client c, and the word is the pixel's
pub record IsGiven (size : Sides) (t : List ℕ) (c s x : ℕ) : Type 0 where
  pub slot_in : s < 33
  pub owner : owner_in t s ≡ c + 1
  pub rect : ℕ
  pub pixel : ℕ
  pub on_screen : pixel < pixel_count size
  pub holds : RowHas size t s rect pixel
  pub word : IsWordOf size (slice_index t place_at) (slice_index t shape_at) pixel x

-- each item of the log lies on a word that the table gives client c in the slot
abbrev pub LogIn : Sides → List ℕ → ℕ → ℕ → List Item → Type 0
LogIn size t c s log = (k : ℕ) (i : Item) → get_elem? log k ≡ some i → IsGiven size t c s (item_word i)

-- ---- what a turn may do

-- The turn's client may read and write the word: the turn has looked at its stamp and at its slot's revision, which is that
-- of the kept clip, and the word is that of a pixel of the clip, or the saved word over one by the cursor's looked words.
pub record Owns (p : Client) (x : ℕ) : Type 0 where
  pub stamp : ℕ
  pub stamped : stamp_in p.mode ≡ Some stamp
  pub clip : KeptClip
  pub turn_slot : slot_in p.mode ≡ Some clip.slot
  pub kept_clip : kept p clip.slot ≡ Some clip
  pub current : look_of (looked_in p.mode) (row_word clip.slot + 1) ≡ Some clip.revision
  pub rect : ℕ
  pub rect_word : ℕ
  pub rect_at : get_elem? clip.rects rect ≡ some rect_word
  pub pixel : ℕ
  pub on_screen : pixel < pixel_count p.setting.size
  pub holds : RectHas p.setting.size rect_word pixel
  pub word : (x ≡ pixel_word pixel)
      ⊎ ((place : ℕ) × (shape : ℕ) × (look_of (looked_in p.mode) place_at ≡ Some place) × (look_of (looked_in p.mode) shape_at ≡ Some shape) × IsSavedOver p.setting.size place shape pixel x)

-- what a client owns in its turn, a table that it sees gives it in the slot of the kept clip
abbrev pub OwnedLaw : Type 0
OwnedLaw = (p : Client) (sees : Sees p) (x : ℕ) (owns : Owns p x) → IsGiven p.setting.size sees.table p.number owns.clip.slot x

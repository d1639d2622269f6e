-- What a painter knows of the cursor in its turn, and what painting under the cursor adds to its log.
use Rattle.std.specs.Prelude.{◌≡◌, ℕ, ◌/◌, ◌%◌, ◌^◌, ◌≤◌, ◌==◌, if◌then◌else◌, List, [], ◌++◌, Option, Some, None}
use Rattle.qws_base.specs.Inks.{is_skip}
use Rattle.qws_base.specs.declared.colours.Depth.{Depth}
use Rattle.qws_base.specs.declared.inks.Ink.{Ink}
use Rattle.qws_base.specs.declared.windows.Cursor.{Cursor}
use Rattle.region_table.specs.Numbers.{cell_word}
use Rattle.region_table.specs.Tables.{cursor_from}
use Rattle.turn_logs.specs.declared.items.Item.{Item}
use Rattle.fb_words.specs.declared.known.Client.{Client}
use Rattle.fb_words.specs.Clips.{look_of, looked_in, log_in}
use Rattle.turn_logs.specs.Carries.{ShownCell, shown_cell}
use Rattle.turn_logs.specs.Pixels.{ink_items}
use Rattle.fb_words.specs.Looks.{OnlyLooks, GoesOn, LookedIn}
use Rattle.sw_cursor.specs.declared.covers.Cover.{Cover}

-- q is p after looks at words of the cursor, which are its place, its shape and its cells
abbrev pub LooksAtCursor : Client → Client → Type 0
LooksAtCursor p q = OnlyLooks 2 1028 p q

-- q is p after such looks, and after reads and writes of pixels
abbrev pub PaintsOn : Client → Client → Type 0
PaintsOn p q = GoesOn 2 1028 p q

-- the turn has looked at the words of the cursor's place and shape, and found the cover there
pub record IsCover (p : Client) (cover : Cover) : Type 0 where
  pub depth_is : cover.depth ≡ p.setting.depth
  pub place : ℕ
  pub place_found : look_of (looked_in p.mode) 2 ≡ Some place
  pub x_is : cover.x ≡ place % 2 ^ 16
  pub y_is : cover.y ≡ place / 2 ^ 16 % 2 ^ 16
  pub shown_is : cover.shown ≡ (place / 2 ^ 32 == 1)
  pub shape : ℕ
  pub shape_found : look_of (looked_in p.mode) 3 ≡ Some shape
  pub w_is : cover.w ≡ shape % 2 ^ 16
  pub h_is : cover.h ≡ shape / 2 ^ 16
  pub few_w : cover.w ≤ 32
  pub few_h : cover.h ≤ 32

-- the items of an ink on a pixel under a cell; none without ink
abbrev pub put_items : Depth → ℕ → Option ShownCell → Ink → ℕ → List Item
put_items depth k cell ink v = if is_skip ink then [] else ink_items depth k cell ink v

-- The log has grown by the items of the ink on the pixel, under the cursor of any words of which the looked ones are true: a
-- Pick of the pixel's scene word, where a colour was found; a Put of the ink over it; and where a cell lies on the pixel a Put
-- of the cell's blend.
pub record PutsInk (p q : Client) (k : ℕ) (ink : Ink) : Type 0 where
  pub found : ℕ
  pub log : (words : ℕ → ℕ) → LookedIn (looked_in q.mode) words
      → log_in q.mode ≡ log_in p.mode ++ put_items p.setting.depth k (shown_cell p.setting.size (cursor_from words) k) ink found

-- the cursor of a cover; its cells don't matter here
abbrev pub bare_cursor : Cover → Cursor
bare_cursor cover = record { x = cover.x; y = cover.y; w = cover.w; h = cover.h; cells = []; shown = cover.shown }

-- the log has grown by the items of an ink on a pixel without a cell
pub record PutsBare (p q : Client) (k : ℕ) (ink : Ink) : Type 0 where
  pub found : ℕ
  pub log : log_in q.mode ≡ log_in p.mode ++ ink_items p.setting.depth k None ink found

-- the turn has looked at the cell, and the log has grown by the items of an ink on a pixel under it
pub record PutsOver (p q : Client) (k : ℕ) (at : ℕ × ℕ) (ink : Ink) : Type 0 where
  pub value : ℕ
  pub cell_found : look_of (looked_in q.mode) (cell_word at.0 at.1) ≡ Some value
  pub found : ℕ
  pub log : log_in q.mode ≡ log_in p.mode ++ ink_items p.setting.depth k (Some record { column = at.0; row = at.1; value = value }) ink found

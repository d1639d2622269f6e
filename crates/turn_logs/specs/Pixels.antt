-- The log of a paint turn, pixel by pixel.
use Rattle.std.specs.Prelude.{◌≡◌, ℕ, ◌<◌, ◌≤◌, Bool, true, List, [], ◌∷◌, length, Option, Some, None, if◌then◌else◌}
use Rattle.std.specs.List.{flat_map, filter}
use mathlib.Core.Option.{some}
use lib.ListN.{get_elem?}
use Rattle.qws_base.specs.Sides.{Sides}
use Rattle.qws_base.specs.Points.{pixel_count}
use Rattle.qws_base.specs.Inks.{ink_after, is_skip}
use Rattle.qws_base.specs.Windows.{Layout, owns}
use Rattle.qws_base.specs.Sheets.{Sheet}
use Rattle.qws_base.specs.Scenes.{Setting, ink_on, has_ink, inked}
use Rattle.qws_base.specs.declared.colours.Depth.{Depth}
use Rattle.qws_base.specs.declared.points.Point.{Point}
use Rattle.qws_base.specs.declared.inks.Ink.{Ink}
use Rattle.qws_base.specs.declared.windows.Cursor.{Cursor}
use Rattle.qws_base.specs.declared.replies.PaintReply.TheVariants.{Painted}
use Rattle.region_table.specs.Numbers.{pixel_word, saved_word}
use Rattle.turn_logs.specs.declared.items.Item.{Item}
use Rattle.turn_logs.specs.declared.items.Item.TheVariants.{Pick, Put}
use Rattle.turn_logs.specs.Carries.{ShownCell, shown_cell, under_cell, CarriesPaint}

-- the items of an ink on a pixel: its scene word is read, where v is found, and the ink over v is put there; the blend of a
-- cell that lies on the pixel is put on the framebuffer word
abbrev pub ink_items : Depth → ℕ → Option ShownCell → Ink → ℕ → List Item
ink_items depth p None ink v = Pick (pixel_word p) v ∷ Put (pixel_word p) (ink_after depth ink v) ∷ []
ink_items depth p (Some cell) ink v =
    Pick (saved_word cell.column cell.row) v ∷ Put (saved_word cell.column cell.row) (ink_after depth ink v) ∷ Put (pixel_word p) (under_cell depth (Some cell) (ink_after depth ink v)) ∷ []

-- the items of a sheet on a pixel, where v has the values found; none without ink
abbrev pub pixel_items : Setting → Cursor → Point → Sheet → (ℕ → ℕ) → ℕ → List Item
pixel_items setting cursor origin sheet v p =
    if is_skip (ink_on setting.size.w origin sheet p) then [] else ink_items setting.depth p (shown_cell setting.size cursor p) (ink_on setting.size.w origin sheet p) (v p)

-- the list has pixels that are mine, among them all that have ink, each once
pub record AreToPaint (size : Sides) (mine with_ink : ℕ → Bool) (ps : List ℕ) : Type 0 where
  pub each : (k p : ℕ) → get_elem? ps k ≡ some p → (p < pixel_count size) × (mine p ≡ true)
  pub all : (p : ℕ) → p < pixel_count size → mine p ≡ true → with_ink p ≡ true → (k : ℕ) × (get_elem? ps k ≡ some p)
  pub once : (j k p : ℕ) → get_elem? ps j ≡ some p → get_elem? ps k ≡ some p → j ≡ k

pub record PixelsLaw : Type 0 where
  -- the items of a sheet on the pixels of a slot, in any order, carry its paint; pixels without ink may be left out
  pub carried : (setting : Setting) (cursor : Cursor) (mine : ℕ → Bool) (origin : Point) (sheet : Sheet) (count : ℕ) (v : ℕ → ℕ) (ps : List ℕ) → cursor.w ≤ 32 → cursor.h ≤ 32
      → AreToPaint setting.size mine (has_ink setting.size.w origin sheet) ps → CarriesPaint setting cursor mine origin sheet (Painted count) (flat_map (pixel_items setting cursor origin sheet v) ps)
  -- as many of them have ink as the paint's reply counts
  pub counted : (size : Sides) (layout : Layout) (slot : ℕ) (sheet : Sheet) (ps : List ℕ) → AreToPaint size (owns layout slot) (has_ink size.w (layout.origin slot) sheet) ps
      → length (filter (has_ink size.w (layout.origin slot) sheet) ps) ≡ length (inked size layout slot sheet)

-- The picture that is shown: the scene, with the cursor above, in colours of 24 bits.
use Rattle.std.specs.Prelude.{ℕ, ◌≡◌, ◌≤◌, ◌⊎◌, ◌+◌, ◌*◌, ◌/◌, ◌%◌, pos, ◌-ℤ◌, nat_abs, ◌&&◌, List, length, Option, None, Some, slice_index, if◌then◌else◌}
use Rattle.std.specs.Option.{option_map_or}
use Rattle.qws_base.specs.Colours.{shown_colour}
use Rattle.qws_base.specs.Inks.{ink_after}
use Rattle.qws_base.specs.Points.{spans, point_of}
use Rattle.qws_base.specs.Scenes.{Setting, by_pixels}
use Rattle.qws_base.specs.declared.colours.Depth.{Depth}
use Rattle.qws_base.specs.declared.points.Point.{Point}
use Rattle.qws_base.specs.declared.windows.Cursor.{Cursor}
use Rattle.qws_base.specs.declared.inks.Ink.{Ink}
use Rattle.qws_base.specs.declared.inks.Ink.TheVariants.{Blend}

-- the shape of a cursor: both sides in 1..32, or both 0, with a cell for each place
pub record IsShape (cursor : Cursor) : Type 0 where
  pub sides : ((1 ≤ cursor.w) × (cursor.w ≤ 32) × (1 ≤ cursor.h) × (cursor.h ≤ 32)) ⊎ ((cursor.w ≡ 0) × (cursor.h ≡ 0))
  pub cells : length cursor.cells ≡ cursor.w * cursor.h

-- the column and the row of the cell that a shown cursor has on a point
abbrev pub cell_on : Cursor → Point → Option (ℕ × ℕ)
cell_on cursor p =
    if cursor.shown && (spans (pos cursor.x) cursor.w p.x && spans (pos cursor.y) cursor.h p.y)
    then Some (nat_abs (p.x -ℤ pos cursor.x), nat_abs (p.y -ℤ pos cursor.y)) else None

-- a cell of the shape, `alpha * 2^24 + colour`; cells stand by rows
abbrev pub cell_at : Cursor → ℕ × ℕ → ℕ
cell_at cursor at = slice_index cursor.cells (at.1 * cursor.w + at.0)

-- the blend of a cell's colour with its alpha
abbrev pub cell_ink : ℕ → Ink
cell_ink cell = Blend (cell % 16777216) (cell / 16777216)

-- the scene colour v at a point, with the cursor above it
abbrev pub under_cursor : Depth → Cursor → Point → ℕ → ℕ
under_cursor depth cursor p v = option_map_or (λ at. ink_after depth (cell_ink (cell_at cursor at)) v) (cell_on cursor p) v

abbrev pub shown_pixel : Setting → Cursor → List ℕ → ℕ → ℕ
shown_pixel setting cursor scene p =
    shown_colour setting.depth (under_cursor setting.depth cursor (point_of setting.size.w p) (slice_index scene p))

abbrev pub shown_picture : Setting → Cursor → List ℕ → List ℕ
shown_picture setting cursor scene = by_pixels setting.size (shown_pixel setting cursor scene)

-- Shapes of a cursor.
use Rattle.std.specs.Prelude.{ℕ, ◌+◌, ◌*◌, ◌≤◌, Bool, List, Option}
use Rattle.std.specs.Option.{option_map}
use Rattle.qws_base.specs.Shown.{cell_on}
use Rattle.qws_base.specs.declared.points.Point.{Point}
use Rattle.qws_base.specs.declared.windows.Cursor.{Cursor}

-- a shape is seen as its sides and its cells by rows
pub record ShapeView : Type 0 where
  pub w : ℕ
  pub h : ℕ
  pub cells : List ℕ

-- 1 to 32 columns and rows
pub record AreSides (w h : ℕ) : Type 0 where
  pub some_w : 1 ≤ w
  pub most_w : w ≤ 32
  pub some_h : 1 ≤ h
  pub most_h : h ≤ 32

-- the cursor of a shape at a place
abbrev pub cursor_of : ShapeView → ℕ → ℕ → Bool → Cursor
cursor_of shape x y shown = record { x = x; y = y; w = shape.w; h = shape.h; cells = shape.cells; shown = shown }

-- the number of the cell that a shown cursor has on a point, by rows
abbrev pub nth_cell_on : Cursor → Point → Option ℕ
nth_cell_on cursor p = option_map (λ at. at.1 * cursor.w + at.0) (cell_on cursor p)

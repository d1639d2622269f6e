-- A picture is seen as its sheet: a rectangle, and the inks of its points by rows.
use Rattle.std.specs.Prelude.{ℕ, ◌+◌, ◌*◌, ◌/◌, ◌%◌, ℤ, pos, negsuc, ◌+ℤ◌, ◌-ℤ◌, ◌≤ℤ◌, nat_abs, List, map, slice_index_or, if◌then◌else◌}
use Rattle.std.specs.List.{range_with_len}
use Rattle.qws_base.specs.Points.{holds}
use Rattle.qws_base.specs.declared.points.Point.{Point}
use Rattle.qws_base.specs.declared.points.Rect.{Rect}
use Rattle.qws_base.specs.declared.inks.Ink.{Ink}
use Rattle.qws_base.specs.declared.inks.Ink.TheVariants.{Skip}

pub record Sheet : Type 0 where
  pub reach : Rect
  pub inks : List Ink

-- the place of a point in the rows of a rectangle that holds it
abbrev pub place_in : Rect → Point → ℕ
place_in r p = nat_abs (p.y -ℤ r.y) * r.w + nat_abs (p.x -ℤ r.x)

-- Skip outside the rectangle, and where the list is too short
abbrev pub ink_at : Sheet → Point → Ink
ink_at sheet p = if holds sheet.reach p then slice_index_or sheet.inks (place_in sheet.reach p) Skip else Skip

-- the sheet that has these inks at the points of a rectangle
abbrev pub sheet_of : Rect → (Point → Ink) → Sheet
sheet_of r f = record { reach = r; inks = map (λ k. f (record { x = r.x +ℤ pos (k % r.w); y = r.y +ℤ pos (k / r.w) })) (range_with_len 0 (r.w * r.h)) }

-- the inks of n points of a row, from a point on
abbrev pub row_of : Sheet → ℤ → ℤ → ℕ → List Ink
row_of sheet y x n = map (λ j. ink_at sheet (record { x = x +ℤ pos j; y = y })) (range_with_len 0 n)

-- where a row may be asked for
pub record IsRow (y x : ℤ) (n : ℕ) : Type 0 where
  pub low_y : negsuc 8191 ≤ℤ y
  pub high_y : y ≤ℤ pos 8191
  pub low_x : negsuc 8191 ≤ℤ x
  pub high_x : (x +ℤ pos n) ≤ℤ pos 8192

-- The outermost columns and rows of points.
use Rattle.std.specs.Prelude.{pos, negsuc, ◌≤ℤ◌, List}
use Rattle.std.specs.List.{fold}
use Rattle.std.specs.Int.{int_min, int_max}
use Rattle.qws_base.specs.declared.points.Point.{Point}
use Rattle.qws_base.specs.declared.bounds.Bounds.{Bounds}

abbrev pub bounds_of_point : Point → Bounds
bounds_of_point p = record { left = p.x; top = p.y; right = p.x; bottom = p.y }

-- wide enough for a point more
abbrev pub grown : Bounds → Point → Bounds
grown b p = record { left = int_min b.left p.x; top = int_min b.top p.y; right = int_max b.right p.x; bottom = int_max b.bottom p.y }

abbrev pub bounds_of : Point → List Point → Bounds
bounds_of p ps = fold grown (bounds_of_point p) ps

-- bounds of points in -4,096 to 4,095
pub record AreBounds (b : Bounds) : Type 0 where
  pub low_x : negsuc 4095 ≤ℤ b.left
  pub columns : b.left ≤ℤ b.right
  pub high_x : b.right ≤ℤ pos 4095
  pub low_y : negsuc 4095 ≤ℤ b.top
  pub rows : b.top ≤ℤ b.bottom
  pub high_y : b.bottom ≤ℤ pos 4095

-- Rectangles around sets of points.
use Rattle.std.specs.Prelude.{◌≡◌, Bool, true}
use Rattle.std.specs.Int.{int_min, int_max}
use Rattle.qws_base.specs.Points.{holds}
use Rattle.qws_base.specs.Regions.{right, bottom}
use Rattle.qws_base.specs.declared.points.Point.{Point}
use Rattle.qws_base.specs.declared.points.Rect.{Rect}

-- the least rectangle that holds all points of a set
pub record IsLeastAround (r : Rect) (set : Point → Bool) : Type 0 where
  pub holds_all : (p : Point) → set p ≡ true → holds r p ≡ true
  pub least : (s : Rect) → ((p : Point) → set p ≡ true → holds s p ≡ true) → (p : Point) → holds r p ≡ true → holds s p ≡ true

-- from the outermost starts of two rectangles to their outermost ends
pub record IsHull (r s hull : Rect) : Type 0 where
  pub left : hull.x ≡ int_min r.x s.x
  pub ends : right hull ≡ int_max (right r) (right s)
  pub top : hull.y ≡ int_min r.y s.y
  pub low : bottom hull ≡ int_max (bottom r) (bottom s)

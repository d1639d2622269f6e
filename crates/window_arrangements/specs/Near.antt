-- Where origins and requested rectangles may be.
use Rattle.std.specs.Prelude.{ℤ, pos, negsuc, ◌≤◌, ◌≤ℤ◌}
use Rattle.qws_base.specs.declared.points.Point.{Point}
use Rattle.qws_base.specs.declared.points.Rect.{Rect}

-- from -4,096 to 4,095
pub record IsNear (x : ℤ) : Type 0 where
  pub low : negsuc 4095 ≤ℤ x
  pub high : x ≤ℤ pos 4095

pub record IsNearPoint (p : Point) : Type 0 where
  pub x : IsNear p.x
  pub y : IsNear p.y

pub record IsNearRect (r : Rect) : Type 0 where
  pub x : IsNear r.x
  pub y : IsNear r.y
  pub few_w : r.w ≤ 4096
  pub few_h : r.h ≤ 4096

-- Rectangles of fills and tiles.
use Rattle.std.specs.Prelude.{◌<◌, ◌≤◌}
use Rattle.qws_base.specs.Points.{IsPlaced}
use Rattle.qws_base.specs.declared.points.Rect.{Rect}

-- a rectangle of 1 to 4,096 columns and rows, with its corner in -4,096 to 4,095
pub record IsPlacedRect (r : Rect) : Type 0 where
  pub corner : IsPlaced (record { x = r.x; y = r.y })
  pub some_w : 0 < r.w
  pub most_w : r.w ≤ 4096
  pub some_h : 0 < r.h
  pub most_h : r.h ≤ 4096

-- The front of a list of rectangles that is canonical as it stands.
use Rattle.std.specs.Prelude.{ℕ, ◌<◌, ◌≤◌, ℤ, ◌<ℤ◌, List, length, take, slice_index_or}
use Rattle.qws_base.specs.declared.points.Rect.{Rect}
use Rattle.band_regions.specs.Rows.{IsBand, IsLevel}

-- a rectangle with pixels that has the rows of the first and starts right of a column
pub record IsNext (first : Rect) (column : ℤ) (r : Rect) : Type 0 where
  pub wide : 0 < r.w
  pub high : 0 < r.h
  pub level : IsLevel first.y first.h r
  pub right_of : column <ℤ r.x

-- the first rectangles are a band that has the rows of the first one
pub record IsBandRun (n : ℕ) (rects : List Rect) : Type 0 where
  pub within : n ≤ length rects
  pub high : (d : Rect) → 0 < n → 0 < (slice_index_or rects 0 d).h
  pub is_band : (d : Rect) → IsBand (slice_index_or rects 0 d).y (slice_index_or rects 0 d).h (take n rects)

-- Bands from the top, and how far a sweep over the rows has come.
use Rattle.std.specs.Prelude.{ℕ, ◌≡◌, ◌≤◌, ◌+◌, ℤ, ◌<ℤ◌, ◌≤ℤ◌, List, [], map, take, drop, length, slice_index_or, All, AllPairs}
use Rattle.std.specs.List.{filter}
use Rattle.qws_base.specs.Points.{any_holds}
use Rattle.qws_base.specs.Regions.{HasPixels, Precedes, bottom, starts_at, ends_at, span_of}
use Rattle.qws_base.specs.declared.points.Point.{Point}
use Rattle.qws_base.specs.declared.points.Rect.{Rect}
use Rattle.band_regions.specs.Ranges.{IsInRange}

-- the point in that row, in the same column
abbrev pub in_row : ℤ → Point → Point
in_row y p = record { x = p.x; y = y }

-- rectangles in bands, maybe some that could be merged
pub record IsBanded (rects : List Rect) : Type 0 where
  pub in_range : All IsInRange rects
  pub some_pixels : All HasPixels rects
  pub sorted : AllPairs Precedes rects

abbrev pub EndsBelow : ℤ → Rect → Type 0
EndsBelow y r = y <ℤ bottom r

abbrev pub ReachesDown : ℤ → Rect → Type 0
ReachesDown y r = y ≤ℤ bottom r

-- the rest has the points of the list from the row y on, and no band of it ends before
pub record IsRestOfBands (y : ℤ) (rects rest : List Rect) : Type 0 where
  pub is_banded : IsBanded rest
  pub ahead : All (EndsBelow y) rest
  pub same : (p : Point) → y ≤ℤ p.y → any_holds rest p ≡ any_holds rects p

-- the first band is the list up to a place
pub record IsFirstLen (n : ℕ) (rects : List Rect) : Type 0 where
  pub within : n ≤ length rects
  pub in_band : (d : Rect) → All (λ r. r.y ≡ (slice_index_or rects 0 d).y) (take n rects)
  pub beyond : (d : Rect) → All (λ r. (slice_index_or rects 0 d).y <ℤ r.y) (drop n rects)

abbrev pub taller : ℕ → Rect → Rect
taller height r = record r { h = r.h + height }

-- no band starts at a row at which another one with the same spans ends
abbrev pub IsUnmerged : List Rect → Type 0
IsUnmerged rects = (y : ℤ) → map span_of (filter (ends_at y) rects) ≡ map span_of (filter (starts_at y) rects) → filter (starts_at y) rects ≡ []

-- merged bands that end at the row y or before; those that end there are the ones from `last` on
pub record IsSweptTo (y : ℤ) (last : ℕ) (rects : List Rect) : Type 0 where
  pub is_banded : IsBanded rects
  pub unmerged : IsUnmerged rects
  pub within : last ≤ length rects
  pub ended : All (λ r. bottom r <ℤ y) (take last rects)
  pub ending : All (λ r. bottom r ≡ y) (drop last rects)

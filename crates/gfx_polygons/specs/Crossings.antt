-- How a row of a polygon is made.
use Rattle.std.specs.Prelude.{ℕ, ◌≡◌, ◌+◌, ◌*◌, ◌<◌, ℤ, nat_le, Bool, List, length}
use Rattle.std.specs.List.{filter}
use Rattle.qws_base.specs.declared.points.Point.{Point}
use Rattle.picture_rows.specs.Runs.{pixel}
use Rattle.gfx_polygons.specs.Polygons.{counts, counted}

-- where an edge is right of a point, in coordinates that are never negative: u and l of its ends, p of the point, over d rows, in its t-th half row
abbrev pub is_right : ℕ → ℕ → ℕ → ℕ → ℕ → Bool
is_right u l d t p = nat_le (2 * u * d + t * l) (2 * p * d + d + t * u)

-- the edge counts in the row from that place on
pub record IsCrossing (a b : Point) (y x : ℤ) (n place : ℕ) : Type 0 where
  pub at : (k : ℕ) → k < n → counts a b (pixel y x k) ≡ nat_le place k

-- how many places are k or less
abbrev pub passed : List ℕ → ℕ → ℕ
passed places k = length (filter (λ v. nat_le v k) places)

-- at each place of the row as many edges count as places lie there or before
pub record AreCrossings (edges : List (Point × Point)) (y x : ℤ) (n : ℕ) (places : List ℕ) : Type 0 where
  pub at : (k : ℕ) → k < n → counted edges (pixel y x k) ≡ passed places k

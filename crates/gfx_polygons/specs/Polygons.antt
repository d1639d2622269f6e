-- What a polygon shows: the points inside its ring.
use Rattle.std.specs.Prelude.{ℕ, ◌%◌, ◌==◌, ℤ, pos, ◌+ℤ◌, ◌-ℤ◌, ◌*ℤ◌, int_le, int_lt, Bool, false, ◌&&◌, List, [], ◌∷◌, length, slice_index_or, if◌then◌else◌}
use Rattle.std.specs.List.{All, filter}
use Rattle.qws_base.specs.declared.points.Point.{Point}
use Rattle.qws_base.specs.declared.inks.Ink.{Ink}
use Rattle.qws_base.specs.declared.inks.Ink.TheVariants.{Skip}
use Rattle.qws_base.specs.Points.{IsPlaced}
use Rattle.qws_base.specs.Sheets.{Sheet, sheet_of}
use Rattle.picture_rows.specs.Boxes.{half_open_reach}
use Rattle.picture_rows.specs.Counts.{IsPointCount}

-- ---- the rule: in half pixels a vertex lies at doubled coordinates, and a point's centre half a pixel further

abbrev pub doubled : ℤ → ℤ
doubled c = c +ℤ c

abbrev pub centre : ℤ → ℤ
centre c = doubled c +ℤ pos 1

-- an edge from its upper end to its lower one counts for a point whose centre is in its rows, and on it or to its right
abbrev pub counts_down : Point → Point → Point → Bool
counts_down u l p =
    int_le (doubled u.y) (centre p.y) && (int_lt (centre p.y) (doubled l.y)
    && int_le (doubled u.x *ℤ (doubled l.y -ℤ doubled u.y) +ℤ (centre p.y -ℤ doubled u.y) *ℤ (doubled l.x -ℤ doubled u.x)) (centre p.x *ℤ (doubled l.y -ℤ doubled u.y)))

-- an edge within a row counts for no point
abbrev pub counts : Point → Point → Point → Bool
counts a b p = if int_lt a.y b.y then counts_down a b p else (if int_lt b.y a.y then counts_down b a p else false)

-- the edges from a point through those of a list
abbrev pub edges_from : Point → List Point → List (Point × Point)
edges_from a [] = []
edges_from a (b ∷ rest) = (a, b) ∷ edges_from b rest

-- the closed ring: from the last point to the first, and on through the list
abbrev pub ring : List Point → List (Point × Point)
ring [] = []
ring (a ∷ rest) = edges_from (slice_index_or (a ∷ rest) (length rest) a) (a ∷ rest)

-- how many edges count for a point
abbrev pub counted : List (Point × Point) → Point → ℕ
counted edges p = length (filter (λ e. counts e.0 e.1 p) edges)

-- a point is inside where that number is odd
abbrev pub is_inside : List Point → Point → Bool
is_inside points p = counted (ring points) p % 2 == 1

-- ---- the polygon

-- a polygon is seen as its points and its ink
pub record PolygonView : Type 0 where
  pub points : List Point
  pub ink : Ink

-- the ink at each point inside
abbrev pub polygon_sheet : PolygonView → Sheet
polygon_sheet v = sheet_of (half_open_reach v.points) (λ p. if is_inside v.points p then v.ink else Skip)

-- a polygon has 3 to 64 points
abbrev pub IsPolygonCount : ℕ → Type 0
IsPolygonCount n = IsPointCount 3 n

-- and they are in -4,096 to 4,095
pub record IsPolygon (points : List Point) : Type 0 where
  pub count : IsPolygonCount (length points)
  pub placed : All IsPlaced points

-- What lines and polylines show.
use Rattle.std.specs.Prelude.{ℕ, Bool, false, ◌||◌, List, [], ◌∷◌, length, if◌then◌else◌}
use Rattle.std.specs.List.{All}
use Rattle.qws_base.specs.declared.points.Point.{Point}
use Rattle.qws_base.specs.declared.inks.Ink.TheVariants.{Skip, Copy}
use Rattle.qws_base.specs.Points.{IsPlaced}
use Rattle.qws_base.specs.Sheets.{Sheet, sheet_of}
use Rattle.picture_rows.specs.Boxes.{closed_reach}
use Rattle.picture_rows.specs.Counts.{IsPointCount}
use Rattle.gfx_lines.specs.Lines.{on_line}

-- a line is seen as its ends and its colour
pub record LineView : Type 0 where
  pub from : Point
  pub to : Point
  pub colour : ℕ

-- the colour at each point of the line
abbrev pub line_sheet : LineView → Sheet
line_sheet l = sheet_of (closed_reach (l.from ∷ l.to ∷ [])) (λ p. if on_line l.from l.to p then Copy l.colour else Skip)

-- a polyline is seen as its points and its colour
pub record PolylineView : Type 0 where
  pub points : List Point
  pub colour : ℕ

-- a point is on a line between two neighbours in the list
abbrev pub on_lines_from : Point → List Point → Point → Bool
on_lines_from a [] p = false
on_lines_from a (b ∷ rest) p = on_line a b p || on_lines_from b rest p

abbrev pub on_polyline : List Point → Point → Bool
on_polyline [] p = false
on_polyline (a ∷ rest) p = on_lines_from a rest p

-- the colour at each point of the lines
abbrev pub polyline_sheet : PolylineView → Sheet
polyline_sheet l = sheet_of (closed_reach l.points) (λ p. if on_polyline l.points p then Copy l.colour else Skip)

-- a polyline has 2 to 64 points
abbrev pub IsPolylineCount : ℕ → Type 0
IsPolylineCount n = IsPointCount 2 n

-- and they are in -4,096 to 4,095
pub record IsPolyline (points : List Point) : Type 0 where
  pub count : IsPolylineCount (length points)
  pub placed : All IsPlaced points

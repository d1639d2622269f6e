-- Points and rectangles as the grammar has them.
use Rattle.std.specs.Prelude.{pos, List, [], ◌∷◌}
use Rattle.qws_base.specs.declared.points.Point.{Point}
use Rattle.qws_base.specs.declared.points.Rect.{Rect}
use Rattle.session_maker.specs.declared.draws.Place.{Place}
use Rattle.session_maker.specs.declared.draws.Area.{Area}
use Rattle.session_maker.specs.declared.draws.Corners.{Corners}

abbrev pub point_of : Place → Point
point_of p = record { x = pos p.x; y = pos p.y }

abbrev pub rect_of : Area → Rect
rect_of a = record { x = pos a.x; y = pos a.y; w = a.w; h = a.h }

abbrev pub points_of : Corners → List Point
points_of c = point_of c.first ∷ point_of c.second ∷ point_of c.third ∷ []

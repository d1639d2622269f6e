-- The rectangles between the outermost of some points.
use Rattle.std.specs.Prelude.{◌+◌, pos, ◌-ℤ◌, nat_abs, List, [], ◌∷◌}
use Rattle.qws_base.specs.declared.points.Point.{Point}
use Rattle.qws_base.specs.declared.points.Rect.{Rect}
use Rattle.qws_base.specs.declared.bounds.Bounds.{Bounds}
use Rattle.qws_base.specs.Bounds.{bounds_of}

-- the columns and rows within bounds, the last ones among them
abbrev pub closed_rect : Bounds → Rect
closed_rect b = record { x = b.left; y = b.top; w = nat_abs (b.right -ℤ b.left) + 1; h = nat_abs (b.bottom -ℤ b.top) + 1 }

-- the same without the last column and the last row
abbrev pub half_open_rect : Bounds → Rect
half_open_rect b = record { x = b.left; y = b.top; w = nat_abs (b.right -ℤ b.left); h = nat_abs (b.bottom -ℤ b.top) }

-- the same of points; without points there is none
abbrev pub closed_reach : List Point → Rect
closed_reach [] = record { x = pos 0; y = pos 0; w = 0; h = 0 }
closed_reach (p ∷ ps) = closed_rect (bounds_of p ps)

abbrev pub half_open_reach : List Point → Rect
half_open_reach [] = record { x = pos 0; y = pos 0; w = 0; h = 0 }
half_open_reach (p ∷ ps) = half_open_rect (bounds_of p ps)

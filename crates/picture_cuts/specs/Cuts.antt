-- The part of a rectangle that a picture reaches.
use Rattle.std.specs.Prelude.{◌≡◌, ℕ, ℤ, pos, ◌+ℤ◌, ◌-ℤ◌, int_le, int_lt, nat_abs, ◌&&◌, if◌then◌else◌}
use Rattle.std.specs.List.{filter}
use Rattle.qws_base.specs.Sides.{Sides}
use Rattle.qws_base.specs.Points.{holds, shifted}
use Rattle.qws_base.specs.RectPixels.{IsWithin, rect_pixels}
use Rattle.qws_base.specs.Scenes.{has_ink}
use Rattle.qws_base.specs.Sheets.{Sheet}
use Rattle.qws_base.specs.declared.points.Point.{Point}
use Rattle.qws_base.specs.declared.points.Rect.{Rect}

abbrev pub later : ℤ → ℤ → ℤ
later a b = if int_le a b then b else a

abbrev pub sooner : ℤ → ℤ → ℤ
sooner a b = if int_le a b then a else b

-- the places from one to before another; none, from a on, where there are none
abbrev pub span_between : ℤ → ℤ → ℤ → ℤ × ℕ
span_between a low high = if int_lt low high then (low, nat_abs (high -ℤ low)) else (a, 0)

-- the places that n places from a on share with m places from b on
abbrev pub shared_span : ℤ → ℕ → ℤ → ℕ → ℤ × ℕ
shared_span a n b m = span_between a (later a b) (sooner (a +ℤ pos n) (b +ℤ pos m))

-- the part of a rectangle that lies in the reach of a picture at an origin
abbrev pub cut_rect : Point → Rect → Rect → Rect
cut_rect origin reach r = record {
  x = (shared_span r.x r.w (origin.x +ℤ reach.x) reach.w).0;
  y = (shared_span r.y r.h (origin.y +ℤ reach.y) reach.h).0;
  w = (shared_span r.x r.w (origin.x +ℤ reach.x) reach.w).1;
  h = (shared_span r.y r.h (origin.y +ℤ reach.y) reach.h).1;
}

-- the sides of the largest screen
abbrev pub largest : Sides
largest = record { w = 640; h = 480 }

-- a cut has the points that the rectangle shares with the picture's reach; where the rectangle is on a screen, the cut is, and the
-- pixels of both on which the picture has ink are the same
pub record CutLaw : Type 0 where
  pub points : (origin : Point) (reach r : Rect) (p : Point) → holds (cut_rect origin reach r) p ≡ (holds r p && holds (shifted origin reach) p)
  pub within : (size : Sides) (origin : Point) (reach r : Rect) → IsWithin size r → IsWithin size (cut_rect origin reach r)
  pub inked : (size : Sides) (origin : Point) (sheet : Sheet) (r : Rect) → IsWithin size r
      → filter (has_ink size.w origin sheet) (rect_pixels size.w (cut_rect origin sheet.reach r)) ≡ filter (has_ink size.w origin sheet) (rect_pixels size.w r)

-- Points, rectangles and the pixels of a screen.
use Rattle.std.specs.Prelude.{ℕ, ◌+◌, ◌*◌, ◌/◌, ◌%◌, ℤ, pos, negsuc, ◌+ℤ◌, ◌-ℤ◌, ◌≤ℤ◌, int_le, int_lt, nat_abs, Bool, ◌&&◌, List, Option, None, Some, if◌then◌else◌}
use Rattle.std.specs.List.{list_any, range_with_len}
use Rattle.qws_base.specs.Sides.{Sides}
use Rattle.qws_base.specs.declared.points.Point.{Point}
use Rattle.qws_base.specs.declared.points.Rect.{Rect}

-- n places from `low` on have the place `at` among them
abbrev pub spans : ℤ → ℕ → ℤ → Bool
spans low n at = int_le low at && int_lt at (low +ℤ pos n)

-- the rectangle has the point in it
abbrev pub holds : Rect → Point → Bool
holds r p = spans r.x r.w p.x && spans r.y r.h p.y

-- one of the rectangles has the point in it
abbrev pub any_holds : List Rect → Point → Bool
any_holds rects p = list_any (λ r. holds r p) rects

abbrev pub origin_zero : Point
origin_zero = record { x = pos 0; y = pos 0 }

abbrev pub plus : Point → Point → Point
plus p q = record { x = p.x +ℤ q.x; y = p.y +ℤ q.y }

abbrev pub minus : Point → Point → Point
minus p q = record { x = p.x -ℤ q.x; y = p.y -ℤ q.y }

-- the rectangle moved by an origin
abbrev pub shifted : Point → Rect → Rect
shifted origin r = record r { x = origin.x +ℤ r.x; y = origin.y +ℤ r.y }

-- ---- pixels, numbered by rows from the top left

abbrev pub pixel_count : Sides → ℕ
pixel_count size = size.w * size.h

abbrev pub pixels : Sides → List ℕ
pixels size = range_with_len 0 (pixel_count size)

-- the point of a pixel on a screen of that width
abbrev pub point_of : ℕ → ℕ → Point
point_of width p = record { x = pos (p % width); y = pos (p / width) }

abbrev pub is_on_screen : Sides → Point → Bool
is_on_screen size p = spans (pos 0) size.w p.x && spans (pos 0) size.h p.y

-- the pixel at a point; none off the screen
abbrev pub pixel_at : Sides → Point → Option ℕ
pixel_at size p = if is_on_screen size p then Some (nat_abs p.y * size.w + nat_abs p.x) else None

-- ---- where coordinates may be

-- an origin, and the corner of a requested rectangle
pub record IsPlaced (p : Point) : Type 0 where
  pub low_x : negsuc 4095 ≤ℤ p.x
  pub high_x : p.x ≤ℤ pos 4095
  pub low_y : negsuc 4095 ≤ℤ p.y
  pub high_y : p.y ≤ℤ pos 4095

-- a pixel of the largest screen
pub record IsOnLargest (p : Point) : Type 0 where
  pub low_x : pos 0 ≤ℤ p.x
  pub high_x : p.x ≤ℤ pos 639
  pub low_y : pos 0 ≤ℤ p.y
  pub high_y : p.y ≤ℤ pos 479

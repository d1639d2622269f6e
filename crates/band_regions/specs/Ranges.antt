-- Where coordinates may be: from 32,768 before the origin to 32,767 past it, and ends up to 32,768.
use Rattle.std.specs.Prelude.{ℤ, pos, negsuc, ◌≤ℤ◌, int_le, Bool, ◌&&◌, ◌||◌, All, List}
use Rattle.qws_base.specs.Regions.{right, bottom, IsCanonical}
use Rattle.qws_base.specs.declared.points.Point.{Point}
use Rattle.qws_base.specs.declared.points.Rect.{Rect}
use Rattle.qws_base.specs.Points.{shifted}

pub record IsInRange (r : Rect) : Type 0 where
  pub low_x : negsuc 32767 ≤ℤ r.x
  pub high_x : r.x ≤ℤ pos 32767
  pub low_y : negsuc 32767 ≤ℤ r.y
  pub high_y : r.y ≤ℤ pos 32767
  pub high_right : right r ≤ℤ pos 32768
  pub high_bottom : bottom r ≤ℤ pos 32768

-- what each region keeps: a canonical list, in range
pub record IsInForm (rects : List Rect) : Type 0 where
  pub canonical : IsCanonical rects
  pub in_range : All IsInRange rects

-- so many columns to the right and rows down
abbrev pub shift_of : ℤ → ℤ → Point
shift_of dx dy = record { x = dx; y = dy }

-- moved, the rectangle is in range too
abbrev pub IsShiftable : ℤ → ℤ → Rect → Type 0
IsShiftable dx dy r = IsInRange (shifted (shift_of dx dy) r)

-- the rectangle ends above the point; or it starts in the point's row or above, and ends to the point's left
abbrev pub is_before : Rect → Point → Bool
is_before r p = int_le (bottom r) p.y || (int_le r.y p.y && int_le (right r) p.x)

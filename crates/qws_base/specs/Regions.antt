-- Canonical lists of rectangles: bands from the top, and in a band its spans from the left.
use Rattle.std.specs.Prelude.{ℕ, ◌≡◌, ◌<◌, ◌⊎◌, ℤ, pos, ◌+ℤ◌, ◌-ℤ◌, ◌<ℤ◌, ◌≤ℤ◌, Bool, true, not, ◌&&◌, List, [], map, length, All, AllPairs}
use mathlib.Core.Bool.{beq}
use Rattle.std.specs.List.{filter, list_all, range_with_len}
use Rattle.std.specs.Ordering.{int_eq}
use Rattle.qws_base.specs.Sides.{Sides}
use Rattle.qws_base.specs.Points.{any_holds, pixels, point_of, is_on_screen}
use Rattle.qws_base.specs.declared.points.Point.{Point}
use Rattle.qws_base.specs.declared.points.Rect.{Rect}

-- one past the last column
abbrev pub right : Rect → ℤ
right r = r.x +ℤ pos r.w

-- one past the last row
abbrev pub bottom : Rect → ℤ
bottom r = r.y +ℤ pos r.h

abbrev pub HasPixels : Rect → Type 0
HasPixels r = (0 < r.w) × (0 < r.h)

-- r stands in the band of s, to its left with a gap between; or in a band that ends above s
abbrev pub Precedes : Rect → Rect → Type 0
Precedes r s = ((r.y ≡ s.y) × (r.h ≡ s.h) × (right r <ℤ s.x)) ⊎ (bottom r ≤ℤ s.y)

abbrev pub starts_at : ℤ → Rect → Bool
starts_at y r = int_eq r.y y

abbrev pub ends_at : ℤ → Rect → Bool
ends_at y r = int_eq (bottom r) y

-- where it begins in its row, and how long it is
abbrev pub span_of : Rect → ℤ × ℕ
span_of r = (r.x, r.w)

-- no rectangle is empty; each precedes all later ones; and where a band starts at the row at which another ends, their
-- spans differ
pub record IsCanonical (rects : List Rect) : Type 0 where
  pub some_pixels : All HasPixels rects
  pub sorted : AllPairs Precedes rects
  pub unmerged : (y : ℤ) → map span_of (filter (ends_at y) rects) ≡ map span_of (filter (starts_at y) rects) → filter (starts_at y) rects ≡ []

-- the canonical list that holds exactly the points of a set
pub record IsRegionOf (rects : List Rect) (set : Point → Bool) : Type 0 where
  pub canonical : IsCanonical rects
  pub points : (p : Point) → any_holds rects p ≡ set p

-- ---- sets of points of a screen, pixel by pixel

-- the set has no point off the screen
abbrev pub IsOnScreen : Sides → (Point → Bool) → Type 0
IsOnScreen size set = (p : Point) → set p ≡ true → is_on_screen size p ≡ true

-- two sets have the same pixels of the screen
abbrev pub same_pixels : Sides → (Point → Bool) → (Point → Bool) → Bool
same_pixels size set other = list_all (λ p. beq (set (point_of size.w p)) (other (point_of size.w p))) (pixels size)

-- the set has the same columns of the screen in a row as in the row above it
abbrev pub is_as_above : Sides → (Point → Bool) → ℤ → Bool
is_as_above size set y =
    list_all (λ x. beq (set (record { x = pos x; y = y })) (set (record { x = pos x; y = y -ℤ pos 1 }))) (range_with_len 0 size.w)

-- a rectangle of the set begins at the point: the set has the point and not the one to its left, and in the row above the
-- point's it hasn't the same columns
abbrev pub is_corner : Sides → (Point → Bool) → Point → Bool
is_corner size set p = (set p && not (set (record p { x = p.x -ℤ pos 1 }))) && not (is_as_above size set p.y)

-- the pixels at which the rectangles of a set of pixels of the screen begin, in order
abbrev pub corners : Sides → (Point → Bool) → List ℕ
corners size set = filter (λ p. is_corner size set (point_of size.w p)) (pixels size)

-- how many rectangles the canonical list of the set has
abbrev pub rect_count : Sides → (Point → Bool) → ℕ
rect_count size set = length (corners size set)

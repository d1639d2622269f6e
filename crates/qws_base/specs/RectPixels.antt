-- The pixels of rectangles on a screen, one after another.
use Rattle.std.specs.Prelude.{◌≡◌, ℕ, ◌+◌, ◌*◌, ◌<◌, pos, ◌≤ℤ◌, true, nat_abs, List, All}
use Rattle.std.specs.List.{flat_map, range_with_len}
use mathlib.Core.Option.{some}
use lib.ListN.{get_elem?}
use Rattle.qws_base.specs.Sides.{Sides}
use Rattle.qws_base.specs.Points.{holds, any_holds, point_of, pixel_count}
use Rattle.qws_base.specs.Regions.{right, bottom}
use Rattle.qws_base.specs.declared.points.Rect.{Rect}

-- the pixels of a rectangle on a screen of that width, by rows
abbrev pub rect_pixels : ℕ → Rect → List ℕ
rect_pixels width r = flat_map (λ i. range_with_len ((nat_abs r.y + i) * width + nat_abs r.x) r.w) (range_with_len 0 r.h)

-- the pixels of rectangles, one rectangle after another
abbrev pub rects_pixels : ℕ → List Rect → List ℕ
rects_pixels width rects = flat_map (rect_pixels width) rects

-- all of it lies on the screen; it may be empty
pub record IsWithin (size : Sides) (r : Rect) : Type 0 where
  pub from_left : pos 0 ≤ℤ r.x
  pub from_top : pos 0 ≤ℤ r.y
  pub to_right : right r ≤ℤ pos size.w
  pub to_bottom : bottom r ≤ℤ pos size.h

-- no pixel of the screen is in two of them
abbrev pub AreDisjoint : Sides → List Rect → Type 0
AreDisjoint size rects = (j k : ℕ) (r s : Rect) (p : ℕ) → get_elem? rects j ≡ some r → get_elem? rects k ≡ some s → p < pixel_count size
    → holds r (point_of size.w p) ≡ true → holds s (point_of size.w p) ≡ true → j ≡ k

-- the pixels of disjoint rectangles on the screen are those that one of them has, each once
pub record RectPixelsLaw : Type 0 where
  pub each : (size : Sides) (rects : List Rect) (k p : ℕ) → All (IsWithin size) rects → get_elem? (rects_pixels size.w rects) k ≡ some p
      → (p < pixel_count size) × (any_holds rects (point_of size.w p) ≡ true)
  pub all : (size : Sides) (rects : List Rect) (p : ℕ) → All (IsWithin size) rects → p < pixel_count size → any_holds rects (point_of size.w p) ≡ true
      → (k : ℕ) × (get_elem? (rects_pixels size.w rects) k ≡ some p)
  pub once : (size : Sides) (rects : List Rect) (j k p : ℕ) → All (IsWithin size) rects → AreDisjoint size rects
      → get_elem? (rects_pixels size.w rects) j ≡ some p → get_elem? (rects_pixels size.w rects) k ≡ some p → j ≡ k

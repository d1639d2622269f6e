-- A paint on the region of a slot is the paint of the slot.
use Rattle.std.proofs.Common.{◌≡◌, ℕ, ◌+◌, ◌*◌, ◌/◌, ◌%◌, ◌<◌, List, [], ◌∷◌, length, get_or, map, Option, None, Some, Bool, true, false, cond, ◌==◌, refl, ap, sym, ◌∙◌, subst, suc, zero, arith}
use Rattle.std.specs.Prelude.{pos, ◌-ℤ◌, ◌≤ℤ◌, ◌<ℤ◌, ◌&&◌, ◌||◌, All, if◌then◌else◌, slice_index}
use Rattle.std.specs.List.{filter, find}
use Rattle.std.specs.Option.{option_map, option_map_or}
use Rattle.std.proofs.lemmas.Int.{ints}
use Rattle.std.proofs.Math.Nat.{mod-lt, div-lt_iff_lt-mul}
use Rattle.std.proofs.lemmas.Bool.{and_parts, and_from}
use Rattle.std.proofs.lemmas.Bool.Decides.{nat_tests}
use Rattle.std.proofs.lemmas.List.FromFn.{get_or-range_with_len, length-range_with_len}
use Rattle.qws_base.specs.Sides.{Sides}
use Rattle.qws_base.specs.Points.{spans, holds, any_holds, point_of, pixels, pixel_count, is_on_screen, origin_zero}
use Rattle.qws_base.specs.Regions.{right, bottom, HasPixels, IsRegionOf}
use Rattle.qws_base.specs.RectPixels.{IsWithin}
use Rattle.qws_base.specs.Inks.{ink_after}
use Rattle.qws_base.specs.Sheets.{Sheet}
use Rattle.qws_base.specs.Windows.{has_slot, is_own, is_slot, owner_at, origin_of, owns, layout_of, allocated_points}
use Rattle.qws_base.specs.Scenes.{Setting, by_pixels, ink_on, has_ink, inked, pixel_after_paint}
use Rattle.qws_base.specs.Arranged.{IsWindow}
use Rattle.qws_base.specs.declared.points.Point.{Point}
use Rattle.qws_base.specs.declared.points.Rect.{Rect}
use Rattle.qws_base.specs.declared.windows.WindowView.{WindowView}
use Rattle.qws_base.proofs.Integers.{spans_low as low_of, spans_high as high_of, spans_from}
use Rattle.gfx_painters.specs.Plain.{has_pixel, region_painted, region_inked}

-- ---- the rectangles of a region on the screen

one_of : (rects : List Rect) (k : ℕ) (d : Rect) (p : Point) → k < length rects → holds (get_or rects k d) p ≡ true → any_holds rects p ≡ true
one_of [] k d p below h = absurd (omega arith)
one_of (r ∷ rects) zero d p below h = ap (λ b. b || any_holds rects p) h
one_of (r ∷ rects) (suc k) d p below h = by_first (holds r p) (one_of rects k d p (omega arith) h)
  where
    by_first : (b : Bool) → any_holds rects p ≡ true → (b || any_holds rects p) ≡ true
    by_first true later = refl
    by_first false later = later

there : (r : Rect) (p : Point) → r.x ≤ℤ p.x → p.x <ℤ right r → r.y ≤ℤ p.y → p.y <ℤ bottom r → holds r p ≡ true
there r p a b c d = and_from (spans r.x r.w p.x) (spans r.y r.h p.y) (spans_from r.x p.x r.w a b) (spans_from r.y p.y r.h c d)

within : (size : Sides) (r : Rect) → HasPixels r → ((p : Point) → holds r p ≡ true → is_on_screen size p ≡ true) → IsWithin size r
within size r some h =
    let w = some.0 in let n = some.1 in
    let first : Point = record { x = r.x; y = r.y } in
    let last : Point = record { x = right r -ℤ pos 1; y = bottom r -ℤ pos 1 } in
    let a = and_parts (spans (pos 0) size.w r.x) (spans (pos 0) size.h r.y) (h first (there r first (omega (arith, ints)) (omega (arith, ints)) (omega (arith, ints)) (omega (arith, ints)))) in
    let b = and_parts (spans (pos 0) size.w (right r -ℤ pos 1)) (spans (pos 0) size.h (bottom r -ℤ pos 1)) (h last (there r last (omega (arith, ints)) (omega (arith, ints)) (omega (arith, ints)) (omega (arith, ints)))) in
    let left = low_of (pos 0) r.x size.w a.0 in
    let top = low_of (pos 0) r.y size.h a.1 in
    let ends = high_of (pos 0) (right r -ℤ pos 1) size.w b.0 in
    let low = high_of (pos 0) (bottom r -ℤ pos 1) size.h b.1 in
    record { from_left = left; from_top = top; to_right = omega (arith, ints); to_bottom = omega (arith, ints) }

pub region_within : (size : Sides) (windows : List WindowView) (slot : ℕ) (rects : List Rect) → IsRegionOf rects (allocated_points size windows slot) → All (IsWithin size) rects
region_within size windows slot rects is = λ k d below.
    within size (get_or rects k d) (is.canonical.some_pixels k d below)
    (λ p h. (and_parts (is_on_screen size p) (is_slot slot (owner_at windows p)) (sym (is.points p) ∙ one_of rects k d p below h)).0)

-- ---- pixel by pixel

map_same : (f g : ℕ → ℕ) (xs : List ℕ) → ((k : ℕ) → k < length xs → f (get_or xs k 0) ≡ g (get_or xs k 0)) → map f xs ≡ map g xs
map_same f g [] h = refl
map_same f g (x ∷ xs) h = ap (λ y. y ∷ map f xs) (h 0 (omega arith)) ∙ ap (λ (l : List ℕ). g x ∷ l) (map_same f g xs (λ k below. h (suc k) (omega arith)))

filter_same : (p q : ℕ → Bool) (xs : List ℕ) → ((k : ℕ) → k < length xs → p (get_or xs k 0) ≡ q (get_or xs k 0)) → filter p xs ≡ filter q xs
filter_same p q [] h = refl
filter_same p q (x ∷ xs) h = ap (λ b. cond b (x ∷ filter p xs) (filter p xs)) (h 0 (omega arith)) ∙ ap (λ (l : List ℕ). cond (q x) (x ∷ l) l) (filter_same p q xs (λ k below. h (suc k) (omega arith)))

on_pixels : (size : Sides) (F : ℕ → Type 0) → ((p : ℕ) → p < pixel_count size → F p) → (k : ℕ) → k < length (pixels size) → F (get_or (pixels size) k 0)
on_pixels size F h k below =
    let low : k < pixel_count size = omega (arith, below, length-range_with_len 0 (pixel_count size)) in
    subst F (sym (get_or-range_with_len 0 (pixel_count size) k 0 low)) (h (0 + k) (omega arith))

on_screen : (size : Sides) (p : ℕ) → p < pixel_count size → is_on_screen size (point_of size.w p) ≡ true
on_screen size p below =
    let some : 0 < size.w = some_left size.w size.h p below in
    let column : p % size.w < size.w = mod-lt p some in
    let row : p / size.w < size.h = (div-lt_iff_lt-mul some).1 (omega arith) in
    ap (λ b. b && spans (pos 0) size.h (pos (p / size.w))) (spanned size.w (p % size.w) column) ∙ spanned size.h (p / size.w) row
  where
    some_left : (w h k : ℕ) → k < w * h → 0 < w
    some_left zero h k below = absurd (omega arith)
    some_left (suc w) h k below = omega arith

    spanned : (n at : ℕ) → at < n → spans (pos 0) n (pos at) ≡ true
    spanned n at below = grind (arith, ints)

-- on the screen the region has the slot's pixels
has_owned : (size : Sides) (windows : List WindowView) (slot : ℕ) (rects : List Rect) → IsRegionOf rects (allocated_points size windows slot) → (p : ℕ) → p < pixel_count size → has_pixel size.w rects p ≡ owns (layout_of size windows) slot p
has_owned size windows slot rects is p below =
    is.points (point_of size.w p) ∙ ap (λ b. b && is_slot slot (owner_at windows (point_of size.w p))) (on_screen size p below)

pub painted_scene : (setting : Setting) (windows : List WindowView) (slot : ℕ) (rects : List Rect) (origin : Point) (sheet : Sheet) (scene : List ℕ) → IsRegionOf rects (allocated_points setting.size windows slot) → origin ≡ origin_of windows slot
    → region_painted setting rects origin sheet scene ≡ by_pixels setting.size (pixel_after_paint setting (layout_of setting.size windows) slot sheet scene)
painted_scene setting windows slot rects origin sheet scene is at =
    let paint : Bool → Point → ℕ → ℕ = λ b o p. if b then ink_after setting.depth (ink_on setting.size.w o sheet p) (slice_index scene p) else slice_index scene p in
    map_same (λ p. paint (has_pixel setting.size.w rects p) origin p) (λ p. paint (owns (layout_of setting.size windows) slot p) (origin_of windows slot) p) (pixels setting.size)
    (on_pixels setting.size (λ p. ◌≡◌ {A = ℕ} (paint (has_pixel setting.size.w rects p) origin p) (paint (owns (layout_of setting.size windows) slot p) (origin_of windows slot) p))
    (λ p below. ap (λ b. paint b origin p) (has_owned setting.size windows slot rects is p below) ∙ ap (λ (o : Point). paint (owns (layout_of setting.size windows) slot p) o p) at))

pub painted_count : (size : Sides) (windows : List WindowView) (slot : ℕ) (rects : List Rect) (origin : Point) (sheet : Sheet) → IsRegionOf rects (allocated_points size windows slot) → origin ≡ origin_of windows slot
    → length (region_inked size rects origin sheet) ≡ length (inked size (layout_of size windows) slot sheet)
painted_count size windows slot rects origin sheet is at =
    ap (λ (l : List ℕ). length (filter (has_ink size.w origin sheet) l))
    (filter_same (has_pixel size.w rects) (owns (layout_of size windows) slot) (pixels size)
    (on_pixels size (λ p. ◌≡◌ {A = Bool} (has_pixel size.w rects p) (owns (layout_of size windows) slot p)) (has_owned size windows slot rects is)))
    ∙ ap (λ (o : Point). length (filter (has_ink size.w o sheet) (filter (owns (layout_of size windows) slot) (pixels size)))) at

-- ---- the window of a slot

pub own_slot : (windows : List WindowView) (client slot : ℕ) → All IsWindow windows → is_own windows client slot ≡ true → slot < 32
own_slot [] client slot each own = cc
own_slot (w ∷ windows) client slot each own = by_first (has_slot slot w && w.owner == client) refl own (own_slot windows client slot (λ k d below. each (suc k) d (omega arith)))
  where
    by_first : (b : Bool) → (has_slot slot w && w.owner == client) ≡ b → (b || is_own windows client slot) ≡ true → (is_own windows client slot ≡ true → slot < 32) → slot < 32
    by_first true is some later =
        let same = (and_parts (has_slot slot w) (w.owner == client) is).0 in
        let low = (each 0 w (omega arith)).slot in
        let slot_is : w.slot ≡ slot = grind (arith, nat_tests) in
        omega (arith, low, slot_is)
    by_first false is some later = later some

pub own_found : (windows : List WindowView) (client slot : ℕ) → is_own windows client slot ≡ true → option_map (λ w. w.origin) (find (has_slot slot) windows) ≡ None → ⊥
own_found [] client slot own none = cc
own_found (w ∷ windows) client slot own none = by_slot (has_slot slot w) own none (own_found windows client slot)
  where
    by_slot : (b : Bool) → ((b && w.owner == client) || is_own windows client slot) ≡ true → option_map (λ w. w.origin) (cond b (Some w) (find (has_slot slot) windows)) ≡ None → (is_own windows client slot ≡ true → option_map (λ w. w.origin) (find (has_slot slot) windows) ≡ None → ⊥) → ⊥
    by_slot true some none later = cc
    by_slot false some none later = later some none

pub origin_is : (windows : List WindowView) (slot : ℕ) (origin : Point) → option_map (λ w. w.origin) (find (has_slot slot) windows) ≡ Some origin → origin ≡ origin_of windows slot
origin_is windows slot origin is = by_found (find (has_slot slot) windows) is
  where
    by_found : (o : Option WindowView) → option_map (λ w. w.origin) o ≡ Some origin → origin ≡ option_map_or (λ w. w.origin) o origin_zero
    by_found None found = cc
    by_found (Some w) found = cc

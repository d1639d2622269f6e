-- Single rectangles, moved lists, and the search for a point.
use Rattle.band_regions.proofs.Words.{◌≡◌, ℕ, ◌+◌, ◌<◌, ◌≤◌, true, false, ◌||◌, ◌&&◌, List, [], ◌∷◌, length, get_or, take, drop, refl, sym, ap, ◌∙◌, subst, inl, inr, arith, Bool, map, ⊎_elim, ℤ, pos, ◌≤ℤ◌, negsuc, ◌+ℤ◌, ◌-ℤ◌, int_le, All, ints, clamps, take-append-drop, take_all, All-head, list_any-append, list_any_none, spans, holds, any_holds, shifted, minus, bottom, HasPixels, Precedes, right, span_of, starts_at, ends_at, IsCanonical, IsRegionOf, Point, Rect, IsInRange, IsInForm, is_before, cases_lt, cases_eq, or_cases, or_left, or_right, IsPartitionPoint, IsPartitionedBy, IsHull, IsLeastAround}
use Rattle.band_regions.proofs.ListLemmas.{filter-map, any_map}
use Rattle.std.proofs.lemmas.Bool.{cases_Bool}
use Rattle.std.proofs.lemmas.List.Elements.{All-map}
use Rattle.std.proofs.lemmas.List.Folds.{list_any_at, list_any_more}
use Rattle.qws_base.proofs.ListLemmas.{pairs_map}

-- ---- what the questions on regions answer

abbrev pub is_side : ℤ → ℤ → Bool
is_side first end = int_le (negsuc 32767) first && (int_le first (pos 32767) && int_le end (pos 32768))

pub side_tests : (first end : ℤ) → negsuc 32767 ≤ℤ first → first ≤ℤ pos 32767 → int_le end (pos 32768) ≡ is_side first end
side_tests first end l m = grind (arith, ints)

pub in_range_of : (r : Rect) → is_side r.x (right r) ≡ true → is_side r.y (bottom r) ≡ true → IsInRange r
in_range_of r e f = record { low_x = grind (arith, ints); high_x = grind (arith, ints); low_y = grind (arith, ints); high_y = grind (arith, ints); high_right = grind (arith, ints); high_bottom = grind (arith, ints) }

pub sides_of : (r : Rect) → IsInRange r → (is_side r.x (right r) ≡ true) × (is_side r.y (bottom r) ≡ true)
sides_of r h = (grind (arith, ints), grind (arith, ints))

-- a canonical list without points has no rectangle
pub empty_of : (rects : List Rect) → IsCanonical rects → ((p : Point) → any_holds rects p ≡ false) → rects ≡ []
empty_of [] h none = refl
empty_of (r ∷ rs) h none = let some : HasPixels r = All-head HasPixels r rs h.some_pixels in let p : Point = record { x = r.x; y = r.y } in absurd (grind (arith, ints, none p))

-- ---- the least rectangle around rectangles

-- a rectangle's columns and rows are within another's
record IsWithin (r s : Rect) : Type 0 where
  pub left : s.x ≤ℤ r.x
  pub ends : right r ≤ℤ right s
  pub top : s.y ≤ℤ r.y
  pub low : bottom r ≤ℤ bottom s

-- the other holds its corners
within : (r s : Rect) → HasPixels r → ((p : Point) → holds r p ≡ true → holds s p ≡ true) → IsWithin r s
within r s some h = let first : Point = record { x = r.x; y = r.y } in let last : Point = record { x = right r -ℤ pos 1; y = bottom r -ℤ pos 1 } in let a : holds s first ≡ true = h first (grind (arith, ints)) in
    let b : holds s last ≡ true = h last (grind (arith, ints)) in record { left = grind (arith, ints); ends = grind (arith, ints); top = grind (arith, ints); low = grind (arith, ints) }

in_wider : (r s : Rect) (p : Point) → IsWithin r s → holds r p ≡ true → holds s p ≡ true
in_wider r s p h e = grind (arith, ints)

hull_within : (r s t u : Rect) → IsHull r s t → IsWithin r u → IsWithin s u → IsWithin t u
hull_within r s t u h k j = record { left = omega (arith, ints, clamps); ends = omega (arith, ints, clamps); top = omega (arith, ints, clamps); low = omega (arith, ints, clamps) }

both_within : (r s t : Rect) → IsHull r s t → IsWithin r t × IsWithin s t
both_within r s t h = (
  record { left = omega (arith, ints, clamps); ends = omega (arith, ints, clamps); top = omega (arith, ints, clamps); low = omega (arith, ints, clamps) },
  record { left = omega (arith, ints, clamps); ends = omega (arith, ints, clamps); top = omega (arith, ints, clamps); low = omega (arith, ints, clamps) },
)

-- a rectangle more
pub around_more : (rects : List Rect) (i : ℕ) (d r t : Rect) → i < length rects → HasPixels r → HasPixels (get_or rects i d) → IsLeastAround r (any_holds (take i rects)) → IsHull r (get_or rects i d) t → IsLeastAround t (any_holds (take (i + 1) rects))
around_more rects i d r t l some more h hull = let both = both_within r _ t hull in record {
  holds_all = λ p e. ⊎_elim (λ a. in_wider r t p both.0 (h.holds_all p a)) (in_wider _ t p both.1) (or_cases _ _ (sym (list_any_more _ rects i d l) ∙ e));
  least = λ s all p. in_wider t s p (hull_within r _ t s hull (within r s some (h.least s (λ q m. all q (list_any_more _ rects i d l ∙ or_left _ _ m)))) (within _ s more (λ q m. all q (list_any_more _ rects i d l ∙ or_right _ _ m))));
}

pub hull_of : (r s t : Rect) → IsHull r s t → IsInRange r → IsInRange s → HasPixels r → HasPixels s → IsInRange t × HasPixels t
hull_of r s t h a b p q = (
  record { low_x = omega (arith, ints, clamps); high_x = omega (arith, ints, clamps); low_y = omega (arith, ints, clamps); high_y = omega (arith, ints, clamps); high_right = omega (arith, ints, clamps); high_bottom = omega (arith, ints, clamps) },
  (omega (arith, ints, clamps), omega (arith, ints, clamps)),
)

-- ---- a list that is moved

moved_precedes : (d : Point) (r s : Rect) → Precedes r s → Precedes (shifted d r) (shifted d s)
moved_precedes d r s (inl same) = inl (ap (λ y. d.y +ℤ y) same.0, same.1, omega (arith, ints))
moved_precedes d r s (inr below) = inr (omega (arith, ints))

spans_back : (d : Point) (xs : List Rect) → map (λ (t : ℤ × ℕ). (t.0 -ℤ d.x, t.1)) (map span_of (map (shifted d) xs)) ≡ map span_of xs
spans_back d [] = refl
spans_back d (r ∷ rs) = let e : ((d.x +ℤ r.x) -ℤ d.x) ≡ r.x = omega (arith, ints) in let f = spans_back d rs in cc

same_before : (d : Point) (xs ys : List Rect) → map span_of (map (shifted d) xs) ≡ map span_of (map (shifted d) ys) → map span_of xs ≡ map span_of ys
same_before d xs ys e = sym (spans_back d xs) ∙ ap (map (λ (t : ℤ × ℕ). (t.0 -ℤ d.x, t.1))) e ∙ spans_back d ys

kept_moved : (d : Point) (xs : List Rect) → IsInForm xs → All (λ r. IsInRange (shifted d r)) xs → IsInForm (map (shifted d) xs)
kept_moved d xs h k = record {
  canonical = record {
    some_pixels = All-map HasPixels (shifted d) xs h.canonical.some_pixels;
    sorted = pairs_map Precedes Precedes (shifted d) (moved_precedes d) xs h.canonical.sorted;
    unmerged = λ y same. let ends = filter-map (ends_at y) (ends_at (y -ℤ d.y)) (shifted d) xs (λ r. grind (arith, ints)) in let starts = filter-map (starts_at y) (starts_at (y -ℤ d.y)) (shifted d) xs (λ r. grind (arith, ints)) in
        rw starts (ap (map (shifted d)) (h.canonical.unmerged (y -ℤ d.y) (same_before d _ _ (rw (ends, starts) at same))));
  };
  in_range = All-map IsInRange (shifted d) xs k;
}

moved_span : (a low at : ℤ) (n : ℕ) → spans (a +ℤ low) n at ≡ spans low n (at -ℤ a)
moved_span a low at n = grind (arith, ints)

-- the moved list of a region's list
pub moved_region : (d : Point) (items xs ys now : List Rect) (i : ℕ) → ys ≡ map (shifted d) (take i items) → length items ≤ i → items ≡ xs → xs ≡ now → IsInForm xs → All (λ r. IsInRange (shifted d r)) now → IsInForm ys × IsRegionOf ys (λ p. any_holds now (minus p d))
moved_region d items xs ys now i e l f g h k = let all : ys ≡ map (shifted d) xs = e ∙ ap (map (shifted d)) (take_all i items l ∙ f) in let kept = subst IsInForm (sym all) (kept_moved d xs h (subst (All (λ r. IsInRange (shifted d r))) (sym g) k)) in
    (kept, record { canonical = kept.canonical; points = λ p. ap (λ zs. any_holds zs p) all ∙ any_map _ (λ r. holds r (minus p d)) (shifted d) xs (λ r. rw (moved_span d.x r.x p.x r.w, moved_span d.y r.y p.y r.h)) ∙ ap (λ zs. any_holds zs (minus p d)) g })

-- ---- the search for the rectangle that may hold a point

-- those before the point come first
pub before_parted : (rects : List Rect) (p : Point) → IsInForm rects → IsPartitionedBy (λ r. is_before r p) rects
before_parted rects p h i j d l m e = ⊎_elim (λ (k : i < j). grind (arith, ints, h.canonical.some_pixels j d m, h.canonical.sorted i j d k m))
    (λ (k : j ≤ i). let same : j ≡ i = omega arith in subst (λ n. is_before (get_or rects n d) p ≡ true) same e) (cases_lt i j)

passed : (r : Rect) (p : Point) → is_before r p ≡ true → holds r p ≡ false
passed r p e = grind (arith, ints)

ahead : (r s : Rect) (p : Point) → HasPixels s → Precedes r s → is_before r p ≡ false → holds s p ≡ false
ahead r s p h k e = grind (arith, ints)

reached : (r : Rect) (p : Point) → is_before r p ≡ false → holds r p ≡ (int_le r.x p.x && int_le r.y p.y)
reached r p e = grind (arith, ints)

module _ (rects : List Rect) (p : Point) (k : ℕ) (h : IsPartitionPoint (λ r. is_before r p ≡ true) (λ r. is_before r p ≡ false) rects k) where
  pub none_found : k ≡ length rects → any_holds rects p ≡ false
  none_found e = list_any_none _ rects (λ j d m. passed _ p (h.0 j d (omega arith) (omega arith)))

  -- the first rectangle that isn't before the point holds it, if any does
  pub one_found : (r : Rect) → IsInForm rects → k < length rects → ((d : Rect) → r ≡ get_or rects k d) → any_holds rects p ≡ (int_le r.x p.x && int_le r.y p.y)
  one_found r kept l it = ⊎_elim (λ (e : holds r p ≡ true). list_any_at _ rects k r l (ap (λ s. holds s p) (sym (it r)) ∙ e) ∙ sym e) (λ (e : holds r p ≡ false). list_any_none _ rects (none e) ∙ sym e) (cases_Bool _) ∙ reached r p not_before
    where
      not_before : is_before r p ≡ false
      not_before = ap (λ s. is_before s p) (it r) ∙ h.1 k r (omega arith) l

      none : holds r p ≡ false → All (λ s. holds s p ≡ false) rects
      none e j d m = ⊎_elim (λ (b : j < k). passed _ p (h.0 j d (omega arith) b)) (λ (a : k ≤ j). ⊎_elim (λ (same : k ≡ j). subst (λ n. holds (get_or rects n d) p ≡ false) same (ap (λ s. holds s p) (sym (it d)) ∙ e))
          (λ (other : k ≡ j → ⊥). ahead r _ p (kept.canonical.some_pixels j d m) (rw (← it d) at (kept.canonical.sorted k j d (omega (arith, other)) m)) not_before) (cases_eq k j)) (cases_lt j k)

-- ---- many rectangles

pub region_split : (n : ℕ) (rects first second region : List Rect) → IsRegionOf first (any_holds (take n rects)) → IsRegionOf second (any_holds (drop n rects)) → IsRegionOf region (λ p. any_holds first p || any_holds second p) → IsRegionOf region (any_holds rects)
region_split n rects first second region h k j = record {
  canonical = j.canonical;
  points = λ p. j.points p ∙ rw (h.points p, k.points p) (sym (list_any-append _ (take n rects) _) ∙ ap (λ xs. any_holds xs p) (take-append-drop n rects));
}

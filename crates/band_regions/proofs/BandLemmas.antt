-- Bands seen from a row: their next end, what they have there, and what is left of them.
use Rattle.band_regions.proofs.Words.{◌≡◌, ℕ, ◌-◌, ◌<◌, ◌≤◌, false, ◌||◌, ◌⊎◌, List, [], ◌∷◌, ◌++◌, zero, suc, length, get_or, take, drop, refl, sym, ap, ◌∙◌, ⊎_elim, inl, inr, arith, to_z, of_z, w32, ℤ, pos, ◌<ℤ◌, ◌≤ℤ◌, All, Each, ints, take-append-drop, drop_more, drop-take, All-from_recursion, recursion_from_All, All-drop, list_any-append, list_any_none, spans, holds, any_holds, bottom, HasPixels, Precedes, Point, Rect, IsInRange, IsBandRow, IsLevel, has_column, IsBanded, IsFirstLen, IsRestOfBands, in_row, or_false}
use Rattle.band_regions.proofs.ListLemmas.{Pairs, pairs_of, all_pairs_of, each_left, each_right, pairs_left, pairs_right, any_same}
use Rattle.std.proofs.lemmas.List.Elements.{All-take}

-- the facts of bands by recursion
pub record IsStacked (rects : List Rect) : Type 0 where
  pub range : Each IsInRange rects
  pub pixels : Each HasPixels rects
  pub sorted : Pairs Precedes rects

pub stacked : {rects : List Rect} → IsBanded rects → IsStacked rects
stacked h = record { range = recursion_from_All _ _ h.in_range; pixels = recursion_from_All _ _ h.some_pixels; sorted = pairs_of _ _ h.sorted }

pub banded : {rects : List Rect} → IsStacked rects → IsBanded rects
banded h = record { in_range = All-from_recursion _ _ h.range; some_pixels = All-from_recursion _ _ h.pixels; sorted = all_pairs_of _ _ h.sorted }

pub stacked_parts : (xs ys : List Rect) → IsStacked (xs ++ ys) → IsStacked xs × IsStacked ys
stacked_parts xs ys h = (
  record { range = each_left _ _ _ h.range; pixels = each_left _ _ _ h.pixels; sorted = pairs_left _ _ _ h.sorted },
  record { range = each_right _ _ _ h.range; pixels = each_right _ _ _ h.pixels; sorted = pairs_right _ _ _ h.sorted },
)

pub banded_parts : (n : ℕ) {rects : List Rect} → IsBanded rects → IsBanded (take n rects) × IsBanded (drop n rects)
banded_parts n h = let it = stacked_parts _ _ (rw (take-append-drop n _) (stacked h)) in (banded it.0, banded it.1)

-- what a pattern reads past the end
abbrev pub no_rect : Rect
no_rect = record { x = pos 0; y = pos 0; w = 0; h = 0 }

-- the first of a list
abbrev pub first_of : List Rect → Rect
first_of rects = get_or rects 0 no_rect

-- s is in the band of r, or below it, and both have rows
abbrev IsFrom : Rect → Rect → Type 0
IsFrom r s = (0 < r.h) × (0 < s.h) × (((r.y ≡ s.y) × (r.h ≡ s.h)) ⊎ (bottom r ≤ℤ s.y))

-- each is in the band of the first, or below it
pub from_first : (rects : List Rect) → IsBanded rects → All (IsFrom (first_of rects)) rects
from_first [] h k d l = absurd (omega arith)
from_first (r ∷ rs) h zero d l = let p = h.some_pixels zero d l in (p.1, p.1, inl (refl, refl))
from_first (r ∷ rs) h (suc k) d l = ((h.some_pixels zero d (omega arith)).1, (h.some_pixels (suc k) d l).1, ⊎_elim (λ m. inl (m.0, m.1)) inr (h.sorted zero (suc k) d (omega arith) l))

-- ---- the points of rectangles that lie in a row, and of those that don't

holds_not : (s : Rect) (p : Point) → (p.y <ℤ s.y) ⊎ (bottom s ≤ℤ p.y) → holds s p ≡ false
holds_not s p h = grind (arith, ints)

pub none_hold : (rects : List Rect) (p : Point) → All (λ s. (p.y <ℤ s.y) ⊎ (bottom s ≤ℤ p.y)) rects → any_holds rects p ≡ false
none_hold rects p h = list_any_none _ rects (λ k d l. holds_not _ p (h k d l))

holds_column : (s : Rect) (p : Point) → (s.y ≤ℤ p.y) × (p.y <ℤ bottom s) → holds s p ≡ spans s.x s.w p.x
holds_column s p h = grind (arith, ints)

pub columns_hold : (rects : List Rect) (p : Point) → All (λ s. (s.y ≤ℤ p.y) × (p.y <ℤ bottom s)) rects → any_holds rects p ≡ has_column rects p.x
columns_hold rects p h = any_same _ _ rects (recursion_from_All _ _ (λ k d l. holds_column _ p (h k d l)))

pub any_parts : (n : ℕ) (rects : List Rect) (p : Point) → any_holds rects p ≡ (any_holds (take n rects) p || any_holds (drop n rects) p)
any_parts n rects p = cc (take-append-drop n rects, list_any-append (λ r. holds r p) (take n rects) (drop n rects))

-- ---- the first band, and what comes after it

same_in_band : (r s : Rect) (from : ℤ) (p : Point) → IsFrom r s → r.y ≤ℤ from → from ≤ℤ p.y → p.y <ℤ bottom r → holds s p ≡ holds s (in_row from p)
same_in_band r s from p h l m k = grind (arith, ints)

pub first_len_is : (rects : List Rect) {n : ℕ} {top : ℤ} → 0 < length rects → top ≡ (first_of rects).y → n ≤ length rects → All (λ r. r.y ≡ top) (take n rects) → All (λ r. top <ℤ r.y) (drop n rects) → IsFirstLen n rects
first_len_is [] l e m h k = absurd (omega arith)
first_len_is (r ∷ rs) l e m h k = record { within = m; in_band = λ _ i d j. h i d j ∙ e; beyond = λ _ i d j. omega (arith, ints, k i d j) }

-- a part of a part
pub part_is : (last start : ℕ) (rects : List Rect) → last ≤ start → take (start - last) (drop last rects) ≡ drop last (take start rects)
part_is last start rects l = sym (drop-take last (start - last) rects) ∙ ap (λ k. drop last (take k rects)) (omega arith)

module _ {rects : List Rect} (h : IsBanded rects) where
  pub cast_y : 0 < length rects → to_z w32 (of_z w32 (first_of rects).y) ≡ (first_of rects).y
  cast_y l = let r = h.in_range 0 no_rect l in omega (arith, ints)

  pub none_above : (p : Point) → p.y <ℤ (first_of rects).y → any_holds rects p ≡ false
  none_above p l = none_hold rects p (λ k d m. inl (omega (arith, ints, from_first rects h k d m)))

  pub alike_in_band : (from : ℤ) (p : Point) → (first_of rects).y ≤ℤ from → from ≤ℤ p.y → p.y <ℤ bottom (first_of rects) → any_holds rects p ≡ any_holds rects (in_row from p)
  alike_in_band from p a b c = any_same _ _ rects (recursion_from_All _ _ (λ k d m. same_in_band (first_of rects) _ from p (from_first rects h k d m) a b c))

  pub beyond : (n : ℕ) {top : ℤ} → n < length rects → top <ℤ (get_or rects n no_rect).y → All (λ s. top <ℤ s.y) (drop n rects)
  beyond n l above k d m = omega (arith, ints, ap (λ xs. (first_of xs).y) (drop_more rects n no_rect l), from_first (drop n rects) (banded_parts n h).1 k d m)

  -- the first band's rectangles have the rows of the first, and the others start where it ends or below
  in_first : {n : ℕ} → IsFirstLen n rects → All (IsLevel (first_of rects).y (first_of rects).h) (take n rects)
  in_first {n} f k d m = omega (arith, ints, f.in_band no_rect k d m, All-take (IsFrom (first_of rects)) n rects (from_first rects h) k d m)

  after_first : {n : ℕ} → IsFirstLen n rects → All (λ s. bottom (first_of rects) ≤ℤ s.y) (drop n rects)
  after_first {n} f k d m = omega (arith, ints, f.beyond no_rect k d m, All-drop (IsFrom (first_of rects)) n rects (from_first rects h) k d m)

  -- the row of a band is the columns of its points
  pub row_of_first : {n : ℕ} → IsFirstLen n rects → IsBandRow (take n rects)
  row_of_first {n} f = let it = (banded_parts n h).0 in record {
    each = λ k d m. omega (arith, ints, it.in_range k d m, it.some_pixels k d m);
    gapped = λ i j d l m. let k : i < length (take n rects) = omega arith in omega (arith, ints, it.sorted i j d l m, it.some_pixels i d k, in_first f i d k, in_first f j d m);
  }

  pub row_columns : {n : ℕ} {row : ℤ} → IsFirstLen n rects → (first_of rects).y ≤ℤ row → row <ℤ bottom (first_of rects) → (p : Point) → has_column (take n rects) p.x ≡ any_holds rects (in_row row p)
  row_columns {n} {row} f a b p = let q = in_row row p in cc (
    any_parts n rects q,
    none_hold (drop n rects) q (λ k d m. inl (omega (arith, ints, after_first f k d m))),
    or_false (any_holds (take n rects) q),
    columns_hold (take n rects) q (λ k d m. omega (arith, ints, in_first f k d m)),
  )

  -- what is left where the first band ends, and where it does not
  pub past_band : {n : ℕ} {row : ℤ} → IsFirstLen n rects → row ≡ bottom (first_of rects) → IsRestOfBands row rects (drop n rects)
  past_band {n} {row} f e = let it = (banded_parts n h).1 in record {
    is_banded = it;
    ahead = λ k d m. omega (arith, ints, it.some_pixels k d m, after_first f k d m);
    same = λ p m. cc (any_parts n rects p, none_hold (take n rects) p (λ k d j. inr (omega (arith, ints, in_first f k d j))));
  }

-- Which pixels a sweep of rectangles has, and in which order.
use Rattle.std.proofs.Common.{◌≡◌, ℕ, suc, ◌+◌, ◌-◌, ◌*◌, ◌/◌, ◌%◌, ◌<◌, ◌≤◌, inl, ⊎_elim, Bool, true, false, ◌&&◌, if◌then◌else◌, List, [], ◌∷◌, length, sym, refl, ap, ◌∙◌, subst, arith, ℤ, pos, ◌+ℤ◌, ◌≤ℤ◌, ◌<ℤ◌, nat_abs}
use native.Mathlib.Numerals.{unary_clauses}
use Rattle.std.specs.Prelude.{slice_index_or, nat_lt, nat_le, All, AllPairs}
use Rattle.std.specs.List.{range_with_len, list_any}
use Rattle.std.proofs.lemmas.Int.{ints}
use Rattle.std.proofs.lemmas.Bool.{and_parts, and_from, false≢true, ltb-true, leb-true, lt-ltb, le-leb, or_cases}
use Rattle.std.proofs.lemmas.Nat.{div-add-mod', div-mul-add, mod-mul-add, mul-add-lt, mul-le}
use Rattle.std.proofs.lemmas.List.Concat.{flat_map_single}
use Rattle.std.proofs.lemmas.List.Folds.{list_any_at}
use Rattle.qws_base.specs.Sides.{Sides}
use Rattle.qws_base.specs.Points.{point_of, spans, holds, any_holds, pixel_count}
use Rattle.qws_base.specs.Regions.{Precedes}
use Rattle.qws_base.specs.RectPixels.{IsWithin}
use Rattle.qws_base.specs.declared.points.Rect.{Rect}
use Rattle.scene_turns.specs.Works.{place, stretch_pixels}
use Rattle.scene_turns.specs.Sweeps.{has_row, rect_row, no_rect, row_part, rows_part}
use Rattle.scene_turns.proofs.Order.{Has, InOrder, Before, placed_in_order, placed_piece, in_placed}

-- ---- stretches

abbrev one_pixel : ℕ → ℕ → List ℕ
one_pixel first j = (first + j) ∷ []

in_stretch : (falling : Bool) (first n p : ℕ) → Has (stretch_pixels falling first n) p → (first ≤ p) × (p < first + n)
in_stretch falling first n p has =
    let r = placed_piece falling (one_pixel first) n p (subst (λ l. Has l p) (sym (flat_map_single (λ j. first + place falling n j) (range_with_len 0 n))) has) in
    let low = r.1 in
    ⊎_elim (λ (is : first + r.0 ≡ p). (omega arith, omega arith)) (λ (no : ⊥). absurd no) r.2

stretch_has : (falling : Bool) (first n p : ℕ) → first ≤ p → p < first + n → Has (stretch_pixels falling first n) p
stretch_has falling first n p low high =
    subst (λ l. Has l p) (flat_map_single (λ j. first + place falling n j) (range_with_len 0 n)) (in_placed falling (one_pixel first) n (p - first) p (omega arith) (inl (omega arith)))

stretch_in_order : (falling : Bool) (first n : ℕ) → InOrder (Before falling) (stretch_pixels falling first n)
stretch_in_order falling first n =
    subst (InOrder (Before falling)) (flat_map_single (λ j. first + place falling n j) (range_with_len 0 n))
    (placed_in_order falling (one_pixel first) n (λ j lt. (λ y no. absurd no, tt))
    (λ j k x y lt high hx hy. ⊎_elim (λ (a : first + j ≡ x). ⊎_elim (λ (b : first + k ≡ y). omega arith) (λ (no : ⊥). absurd no) hy) (λ (no : ⊥). absurd no) hx))

-- ---- a rectangle in a row

pub record IsIn (width : ℕ) (r : Rect) (y p : ℕ) : Type 0 where
  pub top : nat_abs r.y ≤ y
  pub bottom : y < nat_abs r.y + r.h
  pub low : y * width + nat_abs r.x ≤ p
  pub high : p < y * width + nat_abs r.x + r.w

pub row_true : (y : ℕ) (r : Rect) → has_row y r ≡ true → (nat_abs r.y ≤ y) × (y < nat_abs r.y + r.h)
row_true y r is = let parts = and_parts (nat_le (nat_abs r.y) y) (nat_lt y (nat_abs r.y + r.h)) is in (leb-true (nat_abs r.y) y parts.0, ltb-true y (nat_abs r.y + r.h) parts.1)

in_rect : (falling : Bool) (width y : ℕ) (r : Rect) (p : ℕ) → Has (rect_row falling width y r) p → IsIn width r y p
in_rect falling width y r p has = go (has_row y r) refl has
  where
    go : (b : Bool) → has_row y r ≡ b → Has (if b then stretch_pixels falling (y * width + nat_abs r.x) r.w else []) p → IsIn width r y p
    go true is h =
        let parts = and_parts (nat_le (nat_abs r.y) y) (nat_lt y (nat_abs r.y + r.h)) is in
        let s = in_stretch falling (y * width + nat_abs r.x) r.w p h in
        record { top = leb-true (nat_abs r.y) y parts.0; bottom = ltb-true y (nat_abs r.y + r.h) parts.1; low = s.0; high = s.1 }
    go false is h = absurd h

rect_has : (falling : Bool) (width y : ℕ) (r : Rect) (p : ℕ) → IsIn width r y p → Has (rect_row falling width y r) p
rect_has falling width y r p is =
    subst (λ b. Has (if b then stretch_pixels falling (y * width + nat_abs r.x) r.w else []) p)
    (sym (and_from (nat_le (nat_abs r.y) y) (nat_lt y (nat_abs r.y + r.h)) (le-leb (nat_abs r.y) y is.top) (lt-ltb y (nat_abs r.y + r.h) is.bottom)))
    (stretch_has falling (y * width + nat_abs r.x) r.w p is.low is.high)

rect_in_order : (falling : Bool) (width y : ℕ) (r : Rect) → InOrder (Before falling) (rect_row falling width y r)
rect_in_order falling width y r = go (has_row y r)
  where
    go : (b : Bool) → InOrder (Before falling) (if b then stretch_pixels falling (y * width + nat_abs r.x) r.w else [])
    go true = stretch_in_order falling (y * width + nat_abs r.x) r.w
    go false = tt

-- ---- places

from_pos : (z : ℤ) → pos 0 ≤ℤ z → z ≡ pos (nat_abs z)
from_pos z le = omega (arith, ints)

pub end_in : (z : ℤ) (n m : ℕ) → pos 0 ≤ℤ z → (z +ℤ pos n) ≤ℤ pos m → nat_abs z + n ≤ m
end_in z n m le end = omega (arith, ints)

spans_in : (x n at : ℕ) → x ≤ at → at < x + n → spans (pos x) n (pos at) ≡ true
spans_in x n at low high = grind (arith, ints)

in_spans : (x n at : ℕ) → spans (pos x) n (pos at) ≡ true → (x ≤ at) × (at < x + n)
in_spans x n at e = (grind (arith, ints), grind (arith, ints))

-- the column and the row of a pixel
at_column : (w y p : ℕ) → y * w ≤ p → p < y * w + w → (p % w ≡ p - y * w) × (p / w ≡ y)
at_column w y p low high = let same : y * w + (p - y * w) ≡ p = omega arith in
    (ap (λ n. n % w) (sym same) ∙ mod-mul-add y w (p - y * w) (omega arith), ap (λ n. n / w) (sym same) ∙ div-mul-add y w (p - y * w) (omega arith))

pub holds_in : (size : Sides) (r : Rect) (y p : ℕ) → IsWithin size r → IsIn size.w r y p → (p < pixel_count size) × (holds r (point_of size.w p) ≡ true)
holds_in size r y p on is =
    let across = end_in r.x r.w size.w on.from_left on.to_right in
    let down = end_in r.y r.h size.h on.from_top on.to_bottom in
    let low = is.low in
    let high = is.high in
    let bottom = is.bottom in
    let at = at_column size.w y p (omega arith) (omega arith) in
    let column = at.0 in
    let within = mul-add-lt y size.w (p - y * size.w) size.h (omega arith) (omega arith) in (
      subst (λ n. n < size.w * size.h) (let z : y * size.w + (p - y * size.w) ≡ p = omega arith in z) within,
      ap (λ z. spans z r.w (pos (p % size.w)) && spans r.y r.h (pos (p / size.w))) (from_pos r.x on.from_left)
          ∙ ap (λ z. spans (pos (nat_abs r.x)) r.w (pos (p % size.w)) && spans z r.h (pos (p / size.w))) (from_pos r.y on.from_top)
          ∙ and_from (spans (pos (nat_abs r.x)) r.w (pos (p % size.w))) (spans (pos (nat_abs r.y)) r.h (pos (p / size.w)))
          (spans_in (nat_abs r.x) r.w (p % size.w) (omega arith) (omega arith))
          (subst (λ n. spans (pos (nat_abs r.y)) r.h (pos n) ≡ true) (sym at.1) (spans_in (nat_abs r.y) r.h y is.top is.bottom)),
    )

in_holds : (size : Sides) (r : Rect) (p : ℕ) → IsWithin size r → holds r (point_of size.w p) ≡ true → IsIn size.w r (p / size.w) p
in_holds size r p on e =
    let parts = and_parts (spans r.x r.w (pos (p % size.w))) (spans r.y r.h (pos (p / size.w))) e in
    let across = in_spans (nat_abs r.x) r.w (p % size.w) (subst (λ z. spans z r.w (pos (p % size.w)) ≡ true) (from_pos r.x on.from_left) parts.0) in
    let down = in_spans (nat_abs r.y) r.h (p / size.w) (subst (λ z. spans z r.h (pos (p / size.w)) ≡ true) (from_pos r.y on.from_top) parts.1) in
    let left = across.0 in
    let right = across.1 in
    let whole = div-add-mod' p size.w in
    record { top = down.0; bottom = down.1; low = omega arith; high = omega arith }

-- ---- all rectangles in a row

at_rect : (rects : List Rect) → ℕ → Rect
at_rect rects i = slice_index_or rects i no_rect

in_row : (falling : Bool) (width : ℕ) (rects : List Rect) (y p : ℕ) → Has (row_part falling width rects y (length rects)) p → (i : ℕ) × (i < length rects) × IsIn width (slice_index_or rects i no_rect) y p
in_row falling width rects y p has = let r = placed_piece falling (λ i. rect_row falling width y (slice_index_or rects i no_rect)) (length rects) p has in
    (r.0, r.1, in_rect falling width y (slice_index_or rects r.0 no_rect) p r.2)

earlier : (size : Sides) (r s : Rect) (y p q : ℕ) → IsWithin size r → IsWithin size s → Precedes r s → IsIn size.w r y p → IsIn size.w s y q → p < q
earlier size r s y p q on_r on_s before is_p is_q =
    let high = is_p.high in
    let low = is_q.low in
    ⊎_elim
    (λ (side : (r.y ≡ s.y) × (r.h ≡ s.h) × ((r.x +ℤ pos r.w) <ℤ s.x)).
    let gap = left_of r.x r.w s.x on_r.from_left on_s.from_left side.2 in omega arith)
    (λ (above : (r.y +ℤ pos r.h) ≤ℤ s.y).
    let gap = above_of r.y r.h s.y on_r.from_top on_s.from_top above in let b = is_p.bottom in let t = is_q.top in absurd (omega arith))
    before
  where
    left_of : (a : ℤ) (n : ℕ) (b : ℤ) → pos 0 ≤ℤ a → pos 0 ≤ℤ b → (a +ℤ pos n) <ℤ b → nat_abs a + n < nat_abs b
    left_of a n b low_a low_b lt = omega (arith, ints)

    above_of : (a : ℤ) (n : ℕ) (b : ℤ) → pos 0 ≤ℤ a → pos 0 ≤ℤ b → (a +ℤ pos n) ≤ℤ b → nat_abs a + n ≤ nat_abs b
    above_of a n b low_a low_b le = omega (arith, ints)

row_in_order : (falling : Bool) (size : Sides) (rects : List Rect) (y : ℕ) → All (IsWithin size) rects → AllPairs Precedes rects → InOrder (Before falling) (row_part falling size.w rects y (length rects))
row_in_order falling size rects y within sorted = placed_in_order falling (λ i. rect_row falling size.w y (slice_index_or rects i no_rect)) (length rects)
    (λ i lt. rect_in_order falling size.w y (slice_index_or rects i no_rect))
    (λ i k p q lt high hp hq. earlier size (slice_index_or rects i no_rect) (slice_index_or rects k no_rect) y p q (within i no_rect (omega arith)) (within k no_rect high) (sorted i k no_rect lt high)
    (in_rect falling size.w y (slice_index_or rects i no_rect) p hp) (in_rect falling size.w y (slice_index_or rects k no_rect) q hq))

-- ---- all rows

pub rows_in_order : (falling : Bool) (size : Sides) (rects : List Rect) → All (IsWithin size) rects → AllPairs Precedes rects → InOrder (Before falling) (rows_part falling size.w rects size.h size.h)
rows_in_order falling size rects within sorted = placed_in_order falling (λ y. row_part falling size.w rects y (length rects)) size.h (λ y lt. row_in_order falling size rects y within sorted)
    (λ j k p q lt high hp hq.
    let a = in_row falling size.w rects j p hp in
    let b = in_row falling size.w rects k q hq in
    let r = slice_index_or rects a.0 no_rect in
    let on = within a.0 no_rect a.1 in
    let across = end_in r.x r.w size.w on.from_left on.to_right in
    let p_high = a.2.high in
    let q_low = b.2.low in
    let rows = mul-le (j + 1) size.w k size.w (omega arith) (omega arith) in
    let row : (j + 1) * size.w ≡ j * size.w + size.w = simp unary_clauses (omega arith) in
    omega arith)

pub swept_in : (falling : Bool) (size : Sides) (rects : List Rect) (p : ℕ) → All (IsWithin size) rects → Has (rows_part falling size.w rects size.h size.h) p → (p < pixel_count size) × (any_holds rects (point_of size.w p) ≡ true)
swept_in falling size rects p within has =
    let r = placed_piece falling (λ y. row_part falling size.w rects y (length rects)) size.h p has in
    let i = in_row falling size.w rects r.0 p r.2 in
    let h = holds_in size (slice_index_or rects i.0 no_rect) r.0 p (within i.0 no_rect i.1) i.2 in
    (h.0, list_any_at (λ (r : Rect). holds r (point_of size.w p)) rects i.0 no_rect i.1 h.1)

holds_one : (f : Rect → Bool) (rects : List Rect) → list_any f rects ≡ true → (i : ℕ) × (i < length rects) × (f (slice_index_or rects i no_rect) ≡ true)
holds_one f [] e = absurd (false≢true e)
holds_one f (r ∷ rs) e = ⊎_elim (λ (h : f r ≡ true). (0, omega arith, h)) (λ (h : list_any f rs ≡ true). let k = holds_one f rs h in let lt = k.1 in (suc k.0, omega arith, k.2)) (or_cases (f r) (list_any f rs) e)

pub in_swept : (falling : Bool) (size : Sides) (rects : List Rect) (p : ℕ) → All (IsWithin size) rects → any_holds rects (point_of size.w p) ≡ true → Has (rows_part falling size.w rects size.h size.h) p
in_swept falling size rects p within e =
    let i = holds_one (λ (r : Rect). holds r (point_of size.w p)) rects e in
    let r = slice_index_or rects i.0 no_rect in
    let on = within i.0 no_rect i.1 in
    let is = in_holds size r p on i.2 in
    let down = end_in r.y r.h size.h on.from_top on.to_bottom in
    let b = is.bottom in
    in_placed falling (λ y. row_part falling size.w rects y (length rects)) size.h (p / size.w) p (omega arith)
    (in_placed falling (λ k. rect_row falling size.w (p / size.w) (slice_index_or rects k no_rect)) (length rects) i.0 p i.1 (rect_has falling size.w (p / size.w) r p is))

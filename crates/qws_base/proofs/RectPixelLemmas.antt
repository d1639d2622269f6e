-- The pixels of rectangles are those that one of them has, each once.
use Rattle.std.proofs.Common.{◌≡◌, ℕ, zero, suc, ◌+◌, ◌-◌, ◌*◌, ◌/◌, ◌%◌, ◌<◌, ◌≤◌, Bool, true, false, ◌&&◌, ◌||◌, List, [], ◌∷◌, sym, refl, ap, ◌∙◌, subst, arith, pos, nat_abs, ◌+ℤ◌, int_le, int_lt}
use Rattle.std.specs.Prelude.{All}
use Rattle.std.specs.List.{range_with_len}
use Rattle.std.proofs.lemmas.Int.{ints}
use Rattle.std.proofs.lemmas.Bool.{and_parts, false≢true}
use Rattle.std.proofs.lemmas.Nat.{div-add-mod', div-mul-add, mod-mul-add, mul-add-lt}
use Rattle.std.proofs.lemmas.List.Elements.{All-head, All-tail}
use mathlib.Core.Option.{some, some-injective, some-ne-none}
use lib.ListN.{get_elem?}
use Rattle.qws_base.specs.Sides.{Sides}
use Rattle.qws_base.specs.Points.{holds, any_holds, point_of, pixel_count, spans}
use Rattle.qws_base.specs.RectPixels.{rect_pixels, IsWithin, RectPixelsLaw}
use Rattle.qws_base.specs.declared.points.Point.{Point}
use Rattle.qws_base.specs.declared.points.Rect.{Rect}
use Rattle.qws_base.proofs.Integers.{from_pos, end_in, spans_in}
use Rattle.qws_base.proofs.JoinedLemmas.{piece_of, in_piece, once_joined, number_at, nth_number}

-- ---- one rectangle

-- the row and the column in a rectangle of a pixel that it has
pub record IsInside (size : Sides) (r : Rect) (p : ℕ) : Type 0 where
  pub i : ℕ
  pub j : ℕ
  pub low : i < r.h
  pub left : j < r.w
  pub is : p ≡ (nat_abs r.y + i) * size.w + nat_abs r.x + j

pub inside_of : (size : Sides) (r : Rect) (k p : ℕ) → get_elem? (rect_pixels size.w r) k ≡ some p → IsInside size r p
inside_of size r k p e =
    let from = piece_of (λ i. range_with_len ((nat_abs r.y + i) * size.w + nat_abs r.x) r.w) (range_with_len 0 r.h) k p e in
    let row = number_at 0 r.h from.place from.piece from.at in
    let column = number_at ((nat_abs r.y + from.piece) * size.w + nat_abs r.x) r.w from.inner p from.is in
    let a = row.0 in let b = row.1 in
    record { i = from.piece; j = from.inner; low = omega arith; left = column.0; is = column.1 }

pub place_of : (size : Sides) (r : Rect) (p : ℕ) → IsInside size r p → (k : ℕ) × (get_elem? (rect_pixels size.w r) k ≡ some p)
place_of size r p inside =
    let first : ℕ = (nat_abs r.y + inside.i) * size.w + nat_abs r.x in
    in_piece (λ i. range_with_len ((nat_abs r.y + i) * size.w + nat_abs r.x) r.w) (range_with_len 0 r.h) inside.i inside.j inside.i p
    (nth_number 0 r.h inside.i inside.low ∙ ap some (let z : 0 + inside.i ≡ inside.i = omega arith in z))
    (nth_number first r.w inside.j inside.left ∙ ap some (sym inside.is))

spans_out : (x n at : ℕ) → spans (pos x) n (pos at) ≡ true → (x ≤ at) × (at < x + n)
spans_out x n at e = let parts = and_parts (int_le (pos x) (pos at)) (int_lt (pos at) (pos x +ℤ pos n)) e in (grind (arith, ints), grind (arith, ints))

-- where a pixel inside lies
record Lies (size : Sides) (r : Rect) (p i j : ℕ) : Type 0 where
  column : p % size.w ≡ nat_abs r.x + j
  row : p / size.w ≡ nat_abs r.y + i
  within : p < pixel_count size

lies : (size : Sides) (r : Rect) (p : ℕ) → IsWithin size r → (inside : IsInside size r p) → Lies size r p inside.i inside.j
lies size r p on inside =
    let across = end_in r.x r.w size.w on.from_left on.to_right in
    let down = end_in r.y r.h size.h on.from_top on.to_bottom in
    let low = inside.low in let left = inside.left in
    let is : p ≡ (nat_abs r.y + inside.i) * size.w + (nat_abs r.x + inside.j) = let e = inside.is in omega arith in record {
      column = ap (λ n. n % size.w) is ∙ mod-mul-add (nat_abs r.y + inside.i) size.w (nat_abs r.x + inside.j) (omega arith);
      row = ap (λ n. n / size.w) is ∙ div-mul-add (nat_abs r.y + inside.i) size.w (nat_abs r.x + inside.j) (omega arith);
      within = subst (λ n. n < size.w * size.h) (sym is) (mul-add-lt (nat_abs r.y + inside.i) size.w (nat_abs r.x + inside.j) size.h (omega arith) (omega arith));
    }

pub holds_inside : (size : Sides) (r : Rect) (p : ℕ) → IsWithin size r → IsInside size r p → (p < pixel_count size) × (holds r (point_of size.w p) ≡ true)
holds_inside size r p on inside =
    let at = lies size r p on inside in
    let low = inside.low in let left = inside.left in let column = at.column in let row = at.row in (
      at.within,
      ap (λ z. spans z r.w (pos (p % size.w)) && spans r.y r.h (pos (p / size.w))) (from_pos r.x on.from_left)
          ∙ ap (λ z. spans (pos (nat_abs r.x)) r.w (pos (p % size.w)) && spans z r.h (pos (p / size.w))) (from_pos r.y on.from_top)
          ∙ ap (λ b. b && spans (pos (nat_abs r.y)) r.h (pos (p / size.w))) (spans_in (nat_abs r.x) r.w (p % size.w) (omega arith) (omega arith))
          ∙ spans_in (nat_abs r.y) r.h (p / size.w) (omega arith) (omega arith),
    )

pub inside_held : (size : Sides) (r : Rect) (p : ℕ) → IsWithin size r → holds r (point_of size.w p) ≡ true → IsInside size r p
inside_held size r p on has =
    let parts = and_parts (spans r.x r.w (pos (p % size.w))) (spans r.y r.h (pos (p / size.w))) has in
    let column = spans_out (nat_abs r.x) r.w (p % size.w) (subst (λ z. spans z r.w (pos (p % size.w)) ≡ true) (from_pos r.x on.from_left) parts.0) in
    let row = spans_out (nat_abs r.y) r.h (p / size.w) (subst (λ z. spans z r.h (pos (p / size.w)) ≡ true) (from_pos r.y on.from_top) parts.1) in
    let a = column.0 in let b = column.1 in let c = row.0 in let d = row.1 in
    let i : ℕ = p / size.w - nat_abs r.y in
    let same : nat_abs r.y + i ≡ p / size.w = omega arith in
    let all = div-add-mod' p size.w in
    let whole : p ≡ (nat_abs r.y + i) * size.w + p % size.w = sym all ∙ ap (λ n. n * size.w + p % size.w) (sym same) in
    record { i = i; j = p % size.w - nat_abs r.x; low = omega arith; left = omega arith; is = omega arith }

once_inside : (size : Sides) (r : Rect) (p j k : ℕ) → IsWithin size r → get_elem? (rect_pixels size.w r) j ≡ some p → get_elem? (rect_pixels size.w r) k ≡ some p → j ≡ k
once_inside size r p j k on = once_joined (λ i. range_with_len ((nat_abs r.y + i) * size.w + nat_abs r.x) r.w) (range_with_len 0 r.h)
    (λ i a q u v at e g. let first : ℕ = (nat_abs r.y + a) * size.w + nat_abs r.x in let x = (number_at first r.w u q e).1 in let y = (number_at first r.w v q g).1 in omega arith)
    (λ q i h a b u v at bt e g.
    let first = number_at 0 r.h i a at in let second = number_at 0 r.h h b bt in
    let one = number_at ((nat_abs r.y + a) * size.w + nat_abs r.x) r.w u q e in let two = number_at ((nat_abs r.y + b) * size.w + nat_abs r.x) r.w v q g in
    let c = first.0 in let d = first.1 in let m = second.0 in let n = second.1 in
    let x = (lies size r q on record { i = a; j = u; low = omega arith; left = one.0; is = one.1 }).row in
    let y = (lies size r q on record { i = b; j = v; low = omega arith; left = two.0; is = two.1 }).row in omega arith) p j k

-- ---- rectangles one after another

within_at : (size : Sides) (rects : List Rect) (k : ℕ) (r : Rect) → All (IsWithin size) rects → get_elem? rects k ≡ some r → IsWithin size r
within_at size [] k r on e = absurd (some-ne-none r (sym e))
within_at size (x ∷ rects) zero r on e = subst (IsWithin size) (some-injective x r e) (All-head (IsWithin size) x rects on)
within_at size (x ∷ rects) (suc k) r on e = within_at size rects k r (All-tail (IsWithin size) x rects on) e

pub any_of : (rects : List Rect) (k : ℕ) (r : Rect) (p : Point) → get_elem? rects k ≡ some r → holds r p ≡ true → any_holds rects p ≡ true
any_of [] k r p e has = absurd (some-ne-none r (sym e))
any_of (x ∷ rects) zero r p e has = ap (λ b. b || any_holds rects p) (ap (λ z. holds z p) (some-injective x r e) ∙ has)
any_of (x ∷ rects) (suc k) r p e has = go (holds x p) (any_of rects k r p e has)
  where
    go : (b : Bool) → any_holds rects p ≡ true → (b || any_holds rects p) ≡ true
    go true r = refl
    go false r = r

pub one_of_any : (rects : List Rect) (p : Point) → any_holds rects p ≡ true → (k : ℕ) × (r : Rect) × (get_elem? rects k ≡ some r) × (holds r p ≡ true)
one_of_any [] p e = absurd (false≢true e)
one_of_any (x ∷ rects) p e = go (holds x p) refl e (one_of_any rects p)
  where
    go : (b : Bool) → holds x p ≡ b → (b || any_holds rects p) ≡ true → (any_holds rects p ≡ true → (k : ℕ) × (r : Rect) × (get_elem? rects k ≡ some r) × (holds r p ≡ true))
        → (k : ℕ) × (r : Rect) × (get_elem? (x ∷ rects) k ≡ some r) × (holds r p ≡ true)
    go true is e r = (0, x, refl, is)
    go false is e r = let m = r e in (suc m.0, m.1, m.2, m.3)

pub rect_pixels_law : RectPixelsLaw
rect_pixels_law = record {
  each = λ size rects k p on e. let from = piece_of (rect_pixels size.w) rects k p e in
      let has = holds_inside size from.piece p (within_at size rects from.place from.piece on from.at) (inside_of size from.piece from.inner p from.is) in
      (has.0, any_of rects from.place from.piece (point_of size.w p) from.at has.1);
  all = λ size rects p on within has. let one = one_of_any rects (point_of size.w p) has in
      let at = place_of size one.1 p (inside_held size one.1 p (within_at size rects one.0 one.1 on one.2) one.3) in
      in_piece (rect_pixels size.w) rects one.0 at.0 one.1 p one.2 at.1;
  once = λ size rects j k p on apart a b. once_joined (rect_pixels size.w) rects
      (λ i r q u v at e g. once_inside size r q u v (within_at size rects i r on at) e g)
      (λ q i h r s u v at bt e g.
      let x = holds_inside size r q (within_at size rects i r on at) (inside_of size r u q e) in
      let y = holds_inside size s q (within_at size rects h s on bt) (inside_of size s v q g) in
      apart i h r s q at bt x.0 x.1 y.1)
      p j k a b;
}

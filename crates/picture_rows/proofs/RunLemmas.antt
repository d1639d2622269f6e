-- Runs of places.
use Rattle.std.proofs.Common.{ℕ, ◌≡◌, ◌+◌, ◌-◌, ◌<◌, ◌≤◌, ℤ, pos, ◌+ℤ◌, ◌-ℤ◌, int_le, int_lt, nat_abs, leb, ltb, Bool, true, false, ◌&&◌, ◌⊎◌, inl, inr, ap, ◌∙◌, arith}
use Rattle.std.proofs.lemmas.Bool.{cases_lt, and_parts}
use Rattle.std.proofs.lemmas.Int.{ints}
use Rattle.qws_base.specs.declared.points.Rect.{Rect}
use Rattle.qws_base.specs.Points.{spans, holds}
use Rattle.qws_base.proofs.Booleans.{both_are, and_true}
use Rattle.qws_base.proofs.Integers.{spanned}
use Rattle.picture_rows.specs.Runs.{in_run, IsRun, IsPart, IsInside}

-- ---- where a place is

pub run_before : (from to k : ℕ) → k < from → in_run from to k ≡ false
run_before from to k h = grind arith

pub run_inside : (from to k : ℕ) → from ≤ k → k < to → in_run from to k ≡ true
run_inside from to k h g = grind arith

pub run_after : (from to k : ℕ) → to ≤ k → in_run from to k ≡ false
run_after from to k h = grind arith

-- the same run of a test that gives the same
pub run_as : (f g : ℕ → Bool) (n from to : ℕ) → ((k : ℕ) → k < n → f k ≡ g k) → IsRun g n from to → IsRun f n from to
run_as f g n from to h r = record { ordered = r.ordered; within = r.within; at = λ k below. h k below ∙ r.at k below }

-- ---- columns

low_end : (low x : ℤ) (k from : ℕ) → leb from k ≡ int_le (low -ℤ x) (pos k) → int_le low (x +ℤ pos k) ≡ leb from k
low_end low x k from h = grind (arith, ints)

high_end : (low x : ℤ) (w k to : ℕ) → leb to k ≡ int_le ((low -ℤ x) +ℤ pos w) (pos k) → int_lt (x +ℤ pos k) (low +ℤ pos w) ≡ ltb k to
high_end low x w k to h = grind (arith, ints)

crossed : (low : ℤ) (w k to from : ℕ) → to < from → leb from to ≡ int_le low (pos to) → leb to to ≡ int_le (low +ℤ pos w) (pos to) → ⊥
crossed low w k to from h f g = grind (arith, ints)

pub run_of_cuts : (low x : ℤ) (w n from to : ℕ) (before after : ℤ) → from ≤ n → to ≤ n
    → ((k : ℕ) → k < n → leb from k ≡ int_le before (pos k)) → ((k : ℕ) → k < n → leb to k ≡ int_le after (pos k))
    → before ≡ low -ℤ x → after ≡ (low -ℤ x) +ℤ pos w → IsRun (λ k. spans low w (x +ℤ pos k)) n from to
run_of_cuts low x w n from to before after fits within f g b a = record {
  ordered = by (cases_lt to from);
  within = within;
  at = λ k below.
      both_are _ _ _ _ (low_end low x k from (f k below ∙ ap (λ z. int_le z (pos k)) b)) (high_end low x w k to (g k below ∙ ap (λ z. int_le z (pos k)) a));
} where
  by : (to < from) ⊎ (from ≤ to) → from ≤ to
  by (inl h) = absurd (crossed (low -ℤ x) w 0 to from h (f to (omega arith) ∙ ap (λ z. int_le z (pos to)) b) (g to (omega arith) ∙ ap (λ z. int_le z (pos to)) a))
  by (inr h) = h

-- a row that a rectangle spans
pub part_of_run : (r : Rect) (y x : ℤ) (n from to : ℕ) → spans r.y r.h y ≡ true → IsRun (λ k. spans r.x r.w (x +ℤ pos k)) n from to → IsPart r y x n from to
part_of_run r y x n from to row run = run_as _ (λ k. spans r.x r.w (x +ℤ pos k)) n from to (λ k below. ap (λ t. spans r.x r.w (x +ℤ pos k) && t) row ∙ and_true (spans r.x r.w (x +ℤ pos k))) run

-- ---- a part is inside

pub part_inside : (r : Rect) (y x : ℤ) (n from to : ℕ) → IsPart r y x n from to → IsInside r y (x +ℤ pos from) (to - from)
part_inside r y x n from to p = record {
  all = λ k h.
      let same : (x +ℤ pos from) +ℤ pos k ≡ x +ℤ pos (from + k) = omega (arith, ints) in
      ap (λ i. holds r (record { x = i; y = y })) same ∙ p.at (from + k) (omega (arith, p.within)) ∙ run_inside from to (from + k) (omega arith) (omega arith);
}

-- ---- where the points of a row lie that are inside

pub inside_row : (r : Rect) (y x : ℤ) (n : ℕ) → IsInside r y x n → 0 < n → spans r.y r.h y ≡ true
inside_row r y x n p h = (and_parts (spans r.x r.w (x +ℤ pos 0)) (spans r.y r.h y) (p.all 0 h)).1

inside_at : (r : Rect) (y x : ℤ) (n k : ℕ) → IsInside r y x n → k < n → spans r.x r.w (x +ℤ pos k) ≡ true
inside_at r y x n k p h = (and_parts (spans r.x r.w (x +ℤ pos k)) (spans r.y r.h y) (p.all k h)).0

pub inside_column : (r : Rect) (y x : ℤ) (n : ℕ) → IsInside r y x n → 0 < n → spans r.x r.w x ≡ true
inside_column r y x n p h = let same : x +ℤ pos 0 ≡ x = omega (arith, ints) in rw same at (inside_at r y x n 0 p h)

-- so many places further
pub further : (low at : ℤ) (n k : ℕ) → spans low n at ≡ true → nat_abs ((at +ℤ pos k) -ℤ low) ≡ nat_abs (at -ℤ low) + k
further low at n k h = omega (arith, ints, (spanned low at n h).same)

-- the columns that the points take end within the rectangle
pub inside_end : (r : Rect) (y x : ℤ) (n : ℕ) → IsInside r y x n → 0 < n → nat_abs (x -ℤ r.x) + n ≤ r.w
inside_end r y x n p h =
    let last = spanned r.x (x +ℤ pos (n - 1)) r.w (inside_at r y x n (n - 1) p (omega arith)) in
    let far = further r.x x r.w (n - 1) (inside_column r y x n p h) in
    omega (arith, last.below, far)

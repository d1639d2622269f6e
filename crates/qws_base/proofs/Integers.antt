-- What tests of integers tell, and which places a span has.
use Rattle.std.proofs.Common.{◌≡◌, ℕ, ◌+◌, ◌*◌, ◌<◌, ◌≤◌, zero, suc, true, false, ◌⊎◌, inl, inr, arith}
use Rattle.std.specs.Prelude.{ℤ, pos, ◌+ℤ◌, ◌-ℤ◌, ◌<ℤ◌, ◌≤ℤ◌, nat_abs, int_le, int_lt}
use Rattle.std.specs.Ordering.{int_eq}
use Rattle.std.proofs.lemmas.Int.{ints}
use Rattle.qws_base.specs.Points.{spans}

-- ---- from an order to its test

pub le_test : (a b : ℤ) → a ≤ℤ b → int_le a b ≡ true
le_test a b h = grind (arith, ints)

pub not_le_test : (a b : ℤ) → b <ℤ a → int_le a b ≡ false
not_le_test a b h = grind (arith, ints)

pub lt_test : (a b : ℤ) → a <ℤ b → int_lt a b ≡ true
lt_test a b h = grind (arith, ints)

pub not_lt_test : (a b : ℤ) → b ≤ℤ a → int_lt a b ≡ false
not_lt_test a b h = grind (arith, ints)

pub eq_test : (a b : ℤ) → a ≡ b → int_eq a b ≡ true
eq_test a b h = grind (arith, ints)

pub not_eq_test : (a b : ℤ) → (a <ℤ b) ⊎ (b <ℤ a) → int_eq a b ≡ false
not_eq_test a b (inl l) = grind (arith, ints)
not_eq_test a b (inr l) = grind (arith, ints)

-- ---- from a test to its order

pub le_told : (a b : ℤ) → int_le a b ≡ true → a ≤ℤ b
le_told a b h = grind (arith, ints)

pub not_le_told : (a b : ℤ) → int_le a b ≡ false → b <ℤ a
not_le_told a b h = grind (arith, ints)

pub lt_told : (a b : ℤ) → int_lt a b ≡ true → a <ℤ b
lt_told a b h = grind (arith, ints)

pub not_lt_told : (a b : ℤ) → int_lt a b ≡ false → b ≤ℤ a
not_lt_told a b h = grind (arith, ints)

pub eq_told : (a b : ℤ) → int_eq a b ≡ true → a ≡ b
eq_told a b h = grind (arith, ints)

-- ---- spans

pub spans_low : (low at : ℤ) (n : ℕ) → spans low n at ≡ true → low ≤ℤ at
spans_low low at n h = grind (arith, ints)

pub spans_high : (low at : ℤ) (n : ℕ) → spans low n at ≡ true → at <ℤ (low +ℤ pos n)
spans_high low at n h = grind (arith, ints)

pub spans_from : (low at : ℤ) (n : ℕ) → low ≤ℤ at → at <ℤ (low +ℤ pos n) → spans low n at ≡ true
spans_from low at n h k = grind (arith, ints)

pub spans_not_before : (low at : ℤ) (n : ℕ) → at <ℤ low → spans low n at ≡ false
spans_not_before low at n h = grind (arith, ints)

pub spans_not_after : (low at : ℤ) (n : ℕ) → (low +ℤ pos n) ≤ℤ at → spans low n at ≡ false
spans_not_after low at n h = grind (arith, ints)

-- how far a spanned place is from the start
pub record IsSpanned (low at : ℤ) (n : ℕ) : Type 0 where
  pub below : nat_abs (at -ℤ low) < n
  pub same : (low +ℤ pos (nat_abs (at -ℤ low))) ≡ at

pub spanned : (low at : ℤ) (n : ℕ) → spans low n at ≡ true → IsSpanned low at n
spanned low at n h =
    let l : low ≤ℤ at = spans_low low at n h in
    let m : at <ℤ (low +ℤ pos n) = spans_high low at n h in
    record { below = omega (arith, ints, l, m); same = omega (arith, ints, l) }

-- the same from 0 on
pub record IsSpannedFromZero (n : ℕ) (at : ℤ) : Type 0 where
  pub below : nat_abs at < n
  pub same : pos (nat_abs at) ≡ at

pub within : (n : ℕ) (at : ℤ) → spans (pos 0) n at ≡ true → IsSpannedFromZero n at
within n at h =
    let l : pos 0 ≤ℤ at = spans_low (pos 0) at n h in
    let m : at <ℤ (pos 0 +ℤ pos n) = spans_high (pos 0) at n h in
    record { below = omega (arith, ints, l, m); same = omega (arith, ints, l) }

-- ---- places from 0 on

pub from_pos : (z : ℤ) → pos 0 ≤ℤ z → z ≡ pos (nat_abs z)
from_pos z le = omega (arith, ints)

pub end_in : (z : ℤ) (n m : ℕ) → pos 0 ≤ℤ z → (z +ℤ pos n) ≤ℤ pos m → nat_abs z + n ≤ m
end_in z n m le end = omega (arith, ints)

pub spans_in : (x n at : ℕ) → x ≤ at → at < x + n → spans (pos x) n (pos at) ≡ true
spans_in x n at low high = grind (arith, ints)

-- a place in rows of some width shows that they have one
pub some_width : (w h k : ℕ) → k < w * h → 0 < w
some_width zero h k below = absurd (omega arith)
some_width (suc w) h k below = omega arith

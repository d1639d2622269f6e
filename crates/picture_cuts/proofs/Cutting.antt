-- The places that two stretches share, as the code computes them.
use Rattle.std.proofs.Common.{◌≡◌, ℕ, ◌<◌, true, if◌then◌else◌, sym, ap, ◌∙◌, arith, pos, nat_abs, ◌+ℤ◌, ◌-ℤ◌, ◌≤ℤ◌, ◌<ℤ◌, ℤ, int_lt, to_z, of_z, w32, w64, ◌^◌, subst}
use Rattle.std.specs.Prelude.{FitsSigned}
use Rattle.std.proofs.lemmas.Int.{to_z-of_z, ints}
use Rattle.qws_base.proofs.Integers.{lt_test, not_lt_test, lt_told}
use Rattle.picture_cuts.specs.Cuts.{later, sooner, span_between, shared_span}

pub span_some : (a : ℤ) (n : ℕ) (b : ℤ) (m : ℕ) (low high : ℤ) → low ≡ later a b → high ≡ sooner (a +ℤ pos n) (b +ℤ pos m) → low <ℤ high → (let r : ℤ × ℕ = (low, nat_abs (high -ℤ low)) in r) ≡ shared_span a n b m
span_some a n b m low high is_low is_high lt =
    sym (ap (λ t. if t then (let r : ℤ × ℕ = (low, nat_abs (high -ℤ low)) in r) else (a, 0)) (lt_test low high lt))
    ∙ ap (λ x. span_between a x high) is_low ∙ ap (λ y. span_between a (later a b) y) is_high

pub span_none : (a : ℤ) (n : ℕ) (b : ℤ) (m : ℕ) (low high : ℤ) → low ≡ later a b → high ≡ sooner (a +ℤ pos n) (b +ℤ pos m) → high ≤ℤ low → (let r : ℤ × ℕ = (a, 0) in r) ≡ shared_span a n b m
span_none a n b m low high is_low is_high none =
    sym (ap (λ t. if t then (let r : ℤ × ℕ = (low, nat_abs (high -ℤ low)) in r) else (a, 0)) (not_lt_test low high none))
    ∙ ap (λ x. span_between a x high) is_low ∙ ap (λ y. span_between a (later a b) y) is_high

pub later_same : (a b x y : ℤ) → a ≡ x → b ≡ y → later a b ≡ later x y
later_same a b x y e f = ap (λ z. later z b) e ∙ ap (later x) f

pub sooner_same : (a b x y : ℤ) → a ≡ x → b ≡ y → sooner a b ≡ sooner x y
sooner_same a b x y e f = ap (λ z. sooner z b) e ∙ ap (sooner x) f

-- ---- signed numbers as the code computes them

widened : (z : ℤ) → FitsSigned w32 z → FitsSigned w64 z
widened z fits = omega (arith, ints)

-- a widened number
pub wide_is : (r z : ℤ) → FitsSigned w32 z → r ≡ to_z w32 (of_z w32 z) → to_z w64 (of_z w64 r) ≡ z
wide_is r z fits is = ap (λ x. to_z w64 (of_z w64 x)) (is ∙ to_z-of_z w32 z fits) ∙ to_z-of_z w64 z (widened z fits)

pub count_is : (r : ℤ) (n : ℕ) → n < 2 ^ 32 → r ≡ pos n → to_z w64 (of_z w64 r) ≡ pos n
count_is r n few is = ap (λ x. to_z w64 (of_z w64 x)) is ∙ to_z-of_z w64 (pos n) (omega (arith, ints))

sum_fits : (a b : ℤ) → FitsSigned w32 a → FitsSigned w32 b → FitsSigned w64 (a +ℤ b)
sum_fits a b f g = omega (arith, ints)

pub sum_is : (r s a b : ℤ) → FitsSigned w32 a → FitsSigned w32 b → r ≡ a → s ≡ b → to_z w64 (of_z w64 (r +ℤ s)) ≡ a +ℤ b
sum_is r s a b f g is_r is_s = ap (λ x. to_z w64 (of_z w64 (x +ℤ s))) is_r ∙ ap (λ x. to_z w64 (of_z w64 (a +ℤ x))) is_s ∙ to_z-of_z w64 (a +ℤ b) (sum_fits a b f g)

end_fits : (a : ℤ) (n : ℕ) → FitsSigned w32 a → n < 2 ^ 32 → FitsSigned w64 (a +ℤ pos n)
end_fits a n f few = omega (arith, ints)

pub end_is : (r s a : ℤ) (n : ℕ) → FitsSigned w32 a → n < 2 ^ 32 → r ≡ a → s ≡ pos n → to_z w64 (of_z w64 (r +ℤ s)) ≡ a +ℤ pos n
end_is r s a n f few is_r is_s = ap (λ x. to_z w64 (of_z w64 (x +ℤ s))) is_r ∙ ap (λ x. to_z w64 (of_z w64 (a +ℤ x))) is_s ∙ to_z-of_z w64 (a +ℤ pos n) (end_fits a n f few)

past_fits : (a b : ℤ) (n : ℕ) → FitsSigned w32 a → FitsSigned w32 b → n < 2 ^ 32 → FitsSigned w64 ((a +ℤ b) +ℤ pos n)
past_fits a b n f g few = omega (arith, ints)

pub past_is : (r s a b : ℤ) (n : ℕ) → FitsSigned w32 a → FitsSigned w32 b → n < 2 ^ 32 → r ≡ a +ℤ b → s ≡ pos n → to_z w64 (of_z w64 (r +ℤ s)) ≡ (a +ℤ b) +ℤ pos n
past_is r s a b n f g few is_r is_s = ap (λ x. to_z w64 (of_z w64 (x +ℤ s))) is_r ∙ ap (λ x. to_z w64 (of_z w64 ((a +ℤ b) +ℤ x))) is_s ∙ to_z-of_z w64 ((a +ℤ b) +ℤ pos n) (past_fits a b n f g few)

-- the shared places, as the code casts them
pub first_fits : (low high start : ℤ) (n : ℕ) → low <ℤ high → start ≤ℤ low → high ≤ℤ (start +ℤ pos n) → pos 0 ≤ℤ start → (start +ℤ pos n) ≤ℤ pos 640 → FitsSigned w32 low
first_fits low high start n lt first last zero end = omega (arith, ints)

pub many_fit : (low high start : ℤ) (n : ℕ) → low <ℤ high → start ≤ℤ low → high ≤ℤ (start +ℤ pos n) → pos 0 ≤ℤ start → (start +ℤ pos n) ≤ℤ pos 640 → (FitsSigned w64 (high -ℤ low)) × (pos 0 ≤ℤ (high -ℤ low)) × (nat_abs (high -ℤ low) < 2 ^ 32)
many_fit low high start n lt first last zero end = (omega (arith, ints), omega (arith, ints), omega (arith, ints))

-- a number as the code has it in 64 bits
abbrev pub in_64 : ℤ → ℤ
in_64 z = to_z w64 (of_z w64 z)

-- the later start and the sooner end, as the code computes them from widened numbers
pub record Numbers (start from : ℤ) (len count : ℕ) (low high : ℤ) : Type 0 where
  pub low_same : in_64 low ≡ low
  pub high_same : in_64 high ≡ high
  pub first : start ≤ℤ low
  pub last : high ≤ℤ (start +ℤ pos len)
  pub is_low : low ≡ later start from
  pub is_high : high ≡ sooner (start +ℤ pos len) (from +ℤ pos count)

pub numbers : (start origin reach : ℤ) (len count : ℕ) (o r s t l m low high : ℤ) → FitsSigned w32 origin → FitsSigned w32 reach → FitsSigned w32 start → len < 2 ^ 32 → count < 2 ^ 32
    → o ≡ to_z w32 (of_z w32 origin) → r ≡ to_z w32 (of_z w32 reach) → s ≡ to_z w32 (of_z w32 start) → t ≡ to_z w32 (of_z w32 start) → l ≡ pos len → m ≡ pos count → FitsSigned w64 low → FitsSigned w64 high
    → low ≡ later (in_64 s) (in_64 (in_64 o +ℤ in_64 r)) → in_64 s ≤ℤ low → high ≡ sooner (in_64 (in_64 t +ℤ in_64 l)) (in_64 (in_64 (in_64 o +ℤ in_64 r) +ℤ in_64 m)) → high ≤ℤ in_64 (in_64 t +ℤ in_64 l)
    → Numbers start (origin +ℤ reach) len count low high
numbers start origin reach len count o r s t l m low high fo fr fs few_l few_m is_o is_r is_s is_t is_l is_m fits_low fits_high low_is from_low high_is to_high =
    let from : in_64 (in_64 o +ℤ in_64 r) ≡ origin +ℤ reach = sum_is _ _ origin reach fo fr (wide_is o origin fo is_o) (wide_is r reach fr is_r) in
    let begin : in_64 s ≡ start = wide_is s start fs is_s in
    let end : in_64 (in_64 t +ℤ in_64 l) ≡ start +ℤ pos len = end_is _ _ start len fs few_l (wide_is t start fs is_t) (count_is l len few_l is_l) in
    let past = past_is _ _ origin reach count fo fr few_m from (count_is m count few_m is_m) in
    record {
      low_same = to_z-of_z w64 low fits_low;
      high_same = to_z-of_z w64 high fits_high;
      first = subst (λ z. z ≤ℤ low) begin from_low;
      last = subst (λ z. high ≤ℤ z) end to_high;
      is_low = low_is ∙ later_same _ _ start (origin +ℤ reach) begin from;
      is_high = high_is ∙ sooner_same _ _ (start +ℤ pos len) ((origin +ℤ reach) +ℤ pos count) end past;
    }

-- where the start is before the end, both and their distance fit
pub record Reached (low high : ℤ) : Type 0 where
  pub before : low <ℤ high
  pub low_fits : FitsSigned w32 low
  pub length_fits : FitsSigned w64 (high -ℤ low)
  pub length_is : in_64 (in_64 high -ℤ in_64 low) ≡ high -ℤ low
  pub from_zero : pos 0 ≤ℤ (high -ℤ low)
  pub few : nat_abs (high -ℤ low) < 2 ^ 32

pub reached : (start from : ℤ) (len count : ℕ) (low high : ℤ) → Numbers start from len count low high → int_lt (in_64 low) (in_64 high) ≡ true → pos 0 ≤ℤ start → (start +ℤ pos len) ≤ℤ pos 640 → Reached low high
reached start from len count low high n told zero end =
    let lt : low <ℤ high = lt_told low high (sym (ap (λ x. int_lt x (in_64 high)) n.low_same ∙ ap (int_lt low) n.high_same) ∙ told) in
    let many = many_fit low high start len lt n.first n.last zero end in record {
      before = lt;
      low_fits = first_fits low high start len lt n.first n.last zero end;
      length_fits = many.0;
      length_is = ap (λ x. in_64 (x -ℤ in_64 low)) n.high_same ∙ ap (λ x. in_64 (high -ℤ x)) n.low_same ∙ to_z-of_z w64 (high -ℤ low) many.0;
      from_zero = many.1;
      few = many.2;
    }

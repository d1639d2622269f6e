-- At which step a line has gone how far along its shorter side.
use Rattle.std.proofs.Common.{ℕ, ◌≡◌, ◌+◌, ◌-◌, ◌*◌, ◌/◌, min, ◌<◌, ◌≤◌, ◌⊎◌, inl, inr, ap, ◌∙◌, arith}
use Rattle.std.proofs.lemmas.Bool.{cases_lt}
use Rattle.std.proofs.lemmas.Int.{ints, clamps}
use Rattle.std.proofs.lemmas.Nat.{mul-le}
use Rattle.std.specs.Prelude.{ℤ, ◌-ℤ◌, ◌≤ℤ◌, nat_abs}
use Rattle.std.specs.Int.{int_min, int_max}
use Rattle.gfx_lines.specs.Lines.{apart, aside}
use Rattle.gfx_lines.specs.Columns.{AreStepsGone}
use Rattle.gfx_lines.proofs.LineLemmas.{aside_all}

-- a quotient and what it leaves
record IsQuotient (x d q : ℕ) : Type 0 where
  pub low : d * q ≤ x
  pub high : x < d * q + d

quotient : (x d : ℕ) → 0 < d → IsQuotient x d (x / d)
quotient x d some = record { low = omega arith; high = omega arith }

whole : (long gone : ℕ) → 0 < gone → (2 * gone - 1) * long + long ≡ 2 * (gone * long)
whole long gone any = let e : (2 * gone - 1) + 1 ≡ 2 * gone = omega arith in omega (arith, ap (λ u. u * long) e)

-- where the first step at or past a multiple is, and how far a line has gone there
pub reached : (long short gone k : ℕ) → 0 < long → 0 < short → 0 < gone → ((2 * gone - 1) * long + 2 * short - 1) / (2 * short) ≤ k → gone ≤ aside long short k
reached long short gone k some wide any h = by (cases_lt (aside long short k) gone)
  where
    by : (aside long short k < gone) ⊎ (gone ≤ aside long short k) → gone ≤ aside long short k
    by (inr l) = l
    by (inl l) =
        let q : IsQuotient ((2 * gone - 1) * long + 2 * short - 1) (2 * short) (((2 * gone - 1) * long + 2 * short - 1) / (2 * short)) = quotient ((2 * gone - 1) * long + 2 * short - 1) (2 * short) (omega arith) in
        let e : IsQuotient (2 * k * short + long) (2 * long) (aside long short k) = quotient (2 * k * short + long) (2 * long) (omega arith) in
        let m = mul-le (2 * short) (((2 * gone - 1) * long + 2 * short - 1) / (2 * short)) (2 * short) k (omega arith) h in
        let n = mul-le (2 * long) (aside long short k + 1) (2 * long) gone (omega arith) (omega arith) in
        absurd (omega (arith, q.low, q.high, e.low, e.high, m, n, whole long gone any))

pub not_yet : (long short gone k : ℕ) → 0 < long → 0 < short → 0 < gone → k < ((2 * gone - 1) * long + 2 * short - 1) / (2 * short) → aside long short k < gone
not_yet long short gone k some wide any h = by (cases_lt (aside long short k) gone)
  where
    by : (aside long short k < gone) ⊎ (gone ≤ aside long short k) → aside long short k < gone
    by (inl l) = l
    by (inr l) =
        let q : IsQuotient ((2 * gone - 1) * long + 2 * short - 1) (2 * short) (((2 * gone - 1) * long + 2 * short - 1) / (2 * short)) = quotient ((2 * gone - 1) * long + 2 * short - 1) (2 * short) (omega arith) in
        let e : IsQuotient (2 * k * short + long) (2 * long) (aside long short k) = quotient (2 * k * short + long) (2 * long) (omega arith) in
        let m = mul-le (2 * short) (k + 1) (2 * short) (((2 * gone - 1) * long + 2 * short - 1) / (2 * short)) (omega arith) (omega arith) in
        let n = mul-le (2 * long) gone (2 * long) (aside long short k) (omega arith) l in
        absurd (omega (arith, q.low, q.high, e.low, e.high, m, n, whole long gone any))

-- a level line goes nowhere along its shorter side
pub level : (long short k : ℕ) → 0 < long → short ≡ 0 → aside long short k ≡ 0
level long short k some e =
    let q : IsQuotient (2 * k * short + long) (2 * long) (aside long short k) = quotient (2 * k * short + long) (2 * long) (omega arith) in
    let none : k * short ≡ 0 = ap (λ u. k * u) e ∙ omega arith in
    by (cases_lt 0 (aside long short k)) q none
  where
    by : (0 < aside long short k) ⊎ (aside long short k ≤ 0) → IsQuotient (2 * k * short + long) (2 * long) (aside long short k) → k * short ≡ 0 → aside long short k ≡ 0
    by (inl l) q none = let n = mul-le (2 * long) 1 (2 * long) (aside long short k) (omega arith) l in absurd (omega (arith, q.low, n, none))
    by (inr l) q none = omega arith

pub none_aside : (long short gone : ℕ) → 0 < long → short ≡ 0 → gone ≤ short → AreStepsGone long short gone 0 (long + 1)
none_aside long short gone some e l = record {
  ordered = omega arith;
  within = omega arith;
  inside = λ k i j. level long short k some e ∙ omega arith;
  all = λ k m t. (omega arith, omega arith);
}

pub between_firsts : (long short gone first next end : ℕ) → 0 < long → gone ≤ short → ((k : ℕ) → first ≤ k → gone ≤ aside long short k) → ((k : ℕ) → k < first → aside long short k < gone)
    → ((k : ℕ) → next ≤ k → gone + 1 ≤ aside long short k) → ((k : ℕ) → k < next → aside long short k < gone + 1) → end ≡ min next (long + 1) → AreStepsGone long short gone first end
between_firsts long short gone first next end some few a b c d e = record {
  ordered = ordered (cases_lt long first) (cases_lt next first);
  within = omega arith;
  inside = λ k i j. omega (arith, a k i, d k (omega arith));
  all = λ k m t. (from (cases_lt k first) (b k) t, to k m (cases_lt k next) (c k) t);
}
  where
    ordered : (long < first) ⊎ (first ≤ long) → (next < first) ⊎ (first ≤ next) → first ≤ end
    ordered (inl l) m = absurd (omega (arith, b long l, aside_all long short some))
    ordered (inr l) (inl m) = absurd (omega (arith, b next m, c next (omega arith)))
    ordered (inr l) (inr m) = omega arith

    from : {k : ℕ} → (k < first) ⊎ (first ≤ k) → (k < first → aside long short k < gone) → aside long short k ≡ gone → first ≤ k
    from (inl l) f t = absurd (omega (arith, f l))
    from (inr l) f t = l

    to : (k : ℕ) → k ≤ long → (k < next) ⊎ (next ≤ k) → (next ≤ k → gone + 1 ≤ aside long short k) → aside long short k ≡ gone → k < end
    to k m (inl l) f t = omega arith
    to k m (inr l) f t = absurd (omega (arith, f l))

-- ---- how far apart two coordinates are

pub apart_is : (a b : ℤ) (n : ℕ) → n ≡ nat_abs (a -ℤ b) → n ≡ apart a b
apart_is a b n e = omega (arith, ints)

pub apart_under : (a b y : ℤ) → int_min a b ≤ℤ y → y ≤ℤ int_max a b → apart a y ≤ apart a b
apart_under a b y l m = omega (arith, ints, clamps)

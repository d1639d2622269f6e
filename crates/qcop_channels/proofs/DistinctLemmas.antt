-- Numbers below a bound, none of them twice, are no more than the bound.
use Rattle.std.proofs.Common.{◌≡◌, ℕ, zero, suc, ◌<◌, ◌≤◌, ◌++◌, [], ◌∷◌, List, Bool, true, false, ◌||◌, ◌==◌, cond, filter, length, take, get_or, eqb, refl, sym, arith}
use Rattle.std.specs.List.{list_any, IsDistinct, AllByRecursion}
use Rattle.std.proofs.lemmas.Map.Steps.{length-le_from_distinct_below}
use Rattle.std.proofs.lemmas.Bool.{false≢true}
use Rattle.std.proofs.lemmas.Bool.Decides.{nat_tests}
use Rattle.qws_base.specs.Mail.{is_among}
use Rattle.qcop_channels.specs.Views.{AreDistinctBelow}

pub both_false : (a b : Bool) → (a || b) ≡ false → (a ≡ false) × (b ≡ false)
both_false true b h = absurd (false≢true (sym h))
both_false false b h = (refl, h)

pub neither : (a b : Bool) → a ≡ false → b ≡ false → (a || b) ≡ false
neither true b h k = h
neither false b h k = k

pub flipped : (x y : ℕ) → (x == y) ≡ false → (y == x) ≡ false
flipped x y h = grind (arith, nat_tests)

-- one more number, at the end
pub is_among-append : (n : ℕ) (numbers : List ℕ) (new : ℕ) → is_among n (numbers ++ new ∷ []) ≡ (is_among n numbers || (new == n))
is_among-append n [] new = grind (arith, nat_tests)
is_among-append n (m ∷ numbers) new = or_assoc (m == n) _ _ _ (is_among-append n numbers new)
  where
    or_assoc : (a b c d : Bool) → d ≡ (b || c) → (a || d) ≡ ((a || b) || c)
    or_assoc true b c d h = refl
    or_assoc false b c d h = h

is_among-push : (n : ℕ) (numbers : List ℕ) (new : ℕ) → is_among n numbers ≡ false → (new == n) ≡ false → is_among n (numbers ++ new ∷ []) ≡ false
is_among-push n numbers new h e = rw is_among-append (neither (is_among n numbers) (new == n) h e)

filter_step : (k : Bool) (n m : ℕ) (kept : List ℕ) → (m == n) ≡ false → is_among n kept ≡ false → is_among n (cond k (m ∷ kept) kept) ≡ false
filter_step true n m kept e h = neither (m == n) (is_among n kept) e h
filter_step false n m kept e h = h

is_among-filter : (n : ℕ) (keeps : ℕ → Bool) (numbers : List ℕ) → is_among n numbers ≡ false → is_among n (filter keeps numbers) ≡ false
is_among-filter n keeps [] h = refl
is_among-filter n keeps (m ∷ numbers) h =
    let parts = both_false (m == n) (is_among n numbers) h in
    filter_step (keeps m) n m (filter keeps numbers) parts.0 (is_among-filter n keeps numbers parts.1)

another : (n : ℕ) (numbers : List ℕ) (i : ℕ) → is_among n numbers ≡ false → i < length numbers → (get_or numbers i 0 == n) ≡ false
another n [] i apart within = absurd (omega arith)
another n (m ∷ numbers) zero apart within = (both_false (m == n) (is_among n numbers) apart).0
another n (m ∷ numbers) (suc i) apart within = another n numbers i (both_false (m == n) (is_among n numbers) apart).1 (omega arith)

module _ (bound : ℕ) where
  -- one more number
  pub AreDistinctBelow-push : (numbers : List ℕ) (new : ℕ) → AreDistinctBelow bound numbers → new < bound → is_among new numbers ≡ false → AreDistinctBelow bound (numbers ++ new ∷ [])
  AreDistinctBelow-push [] new all low apart = (low, refl, tt)
  AreDistinctBelow-push (n ∷ numbers) new all low apart =
      let parts = both_false (n == new) (is_among new numbers) apart in
      (all.0, is_among-push n numbers new all.1 (flipped n new parts.0), AreDistinctBelow-push numbers new all.2 low parts.1)

  kept_step : (k : Bool) (n : ℕ) (kept : List ℕ) → n < bound → is_among n kept ≡ false → AreDistinctBelow bound kept → AreDistinctBelow bound (cond k (n ∷ kept) kept)
  kept_step true n kept low new all = (low, new, all)
  kept_step false n kept low new all = all

  -- some of the numbers
  pub AreDistinctBelow-filter : (keeps : ℕ → Bool) (numbers : List ℕ) → AreDistinctBelow bound numbers → AreDistinctBelow bound (filter keeps numbers)
  AreDistinctBelow-filter keeps [] all = tt
  AreDistinctBelow-filter keeps (n ∷ numbers) all =
      kept_step (keeps n) n (filter keeps numbers) all.0 (is_among-filter n keeps numbers all.1) (AreDistinctBelow-filter keeps numbers all.2)

  apart : (n : ℕ) (numbers : List ℕ) → is_among n numbers ≡ false → AllByRecursion (λ y. eqb n y ≡ false) numbers
  apart n [] h = tt
  apart n (m ∷ numbers) h = let parts = both_false (m == n) (is_among n numbers) h in (flipped m n parts.0, apart n numbers parts.1)

  distinct : (numbers : List ℕ) → AreDistinctBelow bound numbers → IsDistinct eqb numbers
  unfolding IsDistinct
  distinct [] all = tt
  distinct (n ∷ numbers) all = (apart n numbers all.1, distinct numbers all.2)

  below_step : (b : Bool) (q n : ℕ) (rest : Bool) → eqb q n ≡ b → n < bound → (b || rest) ≡ true → (rest ≡ true → q < bound) → q < bound
  below_step true q n rest e low h deeper = grind (arith, nat_tests)
  below_step false q n rest e low h deeper = deeper h

  below : (numbers : List ℕ) → AreDistinctBelow bound numbers → (q : ℕ) → list_any (eqb q) numbers ≡ true → q < bound
  below [] all q h = absurd (false≢true h)
  below (n ∷ numbers) all q h = below_step (eqb q n) q n (list_any (eqb q) numbers) refl all.0 h (λ deeper. below numbers all.2 q deeper)

  -- there are no more of them than the bound
  pub length-AreDistinctBelow : (numbers : List ℕ) → AreDistinctBelow bound numbers → length numbers ≤ bound
  length-AreDistinctBelow numbers all = length-le_from_distinct_below numbers bound (distinct numbers all) (below numbers all)

  -- each is below the bound
  pub below_at : (numbers : List ℕ) (i : ℕ) → AreDistinctBelow bound numbers → i < length numbers → get_or numbers i 0 < bound
  below_at [] i all within = absurd (omega arith)
  below_at (n ∷ numbers) zero all within = all.0
  below_at (n ∷ numbers) (suc i) all within = below_at numbers i all.2 (omega arith)

  -- and none of those before it
  pub not_before : (numbers : List ℕ) (i : ℕ) → AreDistinctBelow bound numbers → i < length numbers → is_among (get_or numbers i 0) (take i numbers) ≡ false
  not_before [] i all within = absurd (omega arith)
  not_before (n ∷ numbers) zero all within = refl
  not_before (n ∷ numbers) (suc i) all within =
      neither (n == get_or numbers i 0) (is_among (get_or numbers i 0) (take i numbers))
      (flipped (get_or numbers i 0) n (another n numbers i all.1 (omega arith))) (not_before numbers i all.2 (omega arith))

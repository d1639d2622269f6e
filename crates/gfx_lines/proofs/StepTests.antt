-- What a test of a range of numbers finds.
use Rattle.std.proofs.Common.{ℕ, zero, suc, ◌≡◌, ◌+◌, ◌<◌, ◌≤◌, Bool, true, false, ◌||◌, List, [], ◌∷◌, refl, ap, ◌∙◌, arith}
use Rattle.std.specs.List.{list_any, range_with_len}
use Rattle.std.proofs.lemmas.List.Folds.{list_any_at}
use Rattle.std.proofs.lemmas.List.FromFn.{length-range_with_len, get_or-range_with_len}

pub list_any_same : {X : Type 0} (f g : X → Bool) → ((x : X) → f x ≡ g x) → (xs : List X) → list_any f xs ≡ list_any g xs
list_any_same f g h [] = refl
list_any_same f g h (x ∷ xs) = ap (λ v. v || list_any f xs) (h x) ∙ ap (λ v. g x || v) (list_any_same f g h xs)

found_from : (f : ℕ → Bool) (a n : ℕ) → list_any f (range_with_len a n) ≡ true → (k : ℕ) × (k < a + n) × (f k ≡ true)
found_from f a zero h = cc
found_from f a (suc n) h = by (f a) refl h (found_from f (a + 1) n) where
  by : (b : Bool) → f a ≡ b → (b || list_any f (range_with_len (a + 1) n)) ≡ true → (list_any f (range_with_len (a + 1) n) ≡ true → (k : ℕ) × (k < a + 1 + n) × (f k ≡ true)) → (k : ℕ) × (k < a + suc n) × (f k ≡ true)
  by true e g later = (a, omega arith, e)
  by false e g later = let r = later g in (r.0, omega (arith, r.1), r.2)

-- a test of the numbers from 0 to n passes somewhere
pub found : (f : ℕ → Bool) (n : ℕ) → list_any f (range_with_len 0 (n + 1)) ≡ true → (k : ℕ) × (k ≤ n) × (f k ≡ true)
found f n h = let r = found_from f 0 (n + 1) h in (r.0, omega (arith, r.1), r.2)

pub found_at : (f : ℕ → Bool) (n k : ℕ) → k ≤ n → f k ≡ true → list_any f (range_with_len 0 (n + 1)) ≡ true
found_at f n k h e =
    list_any_at f (range_with_len 0 (n + 1)) k 0 (omega (arith, length-range_with_len 0 (n + 1)))
    (ap f (get_or-range_with_len 0 (n + 1) k 0 (omega arith) ∙ omega arith) ∙ e)

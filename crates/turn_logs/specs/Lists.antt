-- Lists put together from pieces, and totals over lists.
use Rattle.std.specs.Prelude.{ℕ, zero, suc, ◌+◌, List, [], ◌∷◌, ◌++◌}

-- f of 0 to n, one after the other
abbrev pub upto : {B : Type 0} → (ℕ → List B) → ℕ → List B
upto f zero = f 0
upto f (suc n) = upto f n ++ f (suc n)

-- f of each item, added up
abbrev pub total : {A : Type 0} → (A → ℕ) → List A → ℕ
total f [] = 0
total f (x ∷ xs) = f x + total f xs

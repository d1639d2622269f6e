-- What holds of each item of a list, by its place, where the list changes at one place.
use Rattle.std.proofs.Common.{◌≡◌, ℕ, zero, suc, ◌≢◌, ◌⊎◌, List, [], ◌∷◌, ◌++◌, length, set, sym, refl, subst, inl, inr, ⊎_elim, arith, ◌<◌}
use mathlib.Core.Option.{some, some-injective, some-ne-none}
use lib.ListN.{get_elem?}
use Rattle.atomic_table.proofs.Lists.{at_set}

module _ {A : Type 0} where
  pub at_end : (l : List A) (k : ℕ) (a b : A) → get_elem? (l ++ a ∷ []) k ≡ some b → (get_elem? l k ≡ some b) ⊎ ((k ≡ length l) × (a ≡ b))
  at_end [] zero a b e = inr (refl, some-injective a b e)
  at_end [] (suc k) a b e = absurd (some-ne-none b (sym e))
  at_end (x ∷ xs) zero a b e = inl e
  at_end (x ∷ xs) (suc k) a b e = ⊎_elim (λ (t : get_elem? xs k ≡ some b). inl t) (λ (t : (k ≡ length xs) × (a ≡ b)). inr (let z = t.0 in omega arith, t.1)) (at_end xs k a b e)

  -- one item more
  pub each_of : (P : ℕ → A → Type 0) (l : List A) (a : A) → ((k : ℕ) (b : A) → get_elem? l k ≡ some b → P k b) → P (length l) a
      → (k : ℕ) (b : A) → get_elem? (l ++ a ∷ []) k ≡ some b → P k b
  each_of P l a old new k b e = ⊎_elim (λ (o : get_elem? l k ≡ some b). old k b o) (λ (n : (k ≡ length l) × (a ≡ b)). subst (P k) n.1 (subst (λ j. P j a) (sym n.0) new)) (at_end l k a b e)

  -- one item another
  pub each_set : (P : ℕ → A → Type 0) (l : List A) (i : ℕ) (a : A) → ((k : ℕ) (b : A) → k ≢ i → get_elem? l k ≡ some b → P k b) → P i a
      → (k : ℕ) (b : A) → get_elem? (set l i a) k ≡ some b → P k b
  each_set P l i a old new k b e = ⊎_elim (λ (n : (k ≡ i) × (a ≡ b)). subst (P k) n.1 (subst (λ j. P j a) (sym n.0) new)) (λ (o : (k ≢ i) × (get_elem? l k ≡ some b)). old k b o.0 o.1) (at_set l i k a b e)

  pub there : (l : List A) (i : ℕ) → i < length l → (a : A) × (get_elem? l i ≡ some a)
  there [] i lt = absurd (omega arith)
  there (x ∷ xs) zero lt = (x, refl)
  there (x ∷ xs) (suc i) lt = there xs i (omega arith)

-- What stands in joined lists, and where.
use Rattle.std.proofs.Common.{◌≡◌, ℕ, zero, suc, ◌+◌, ◌<◌, ◌⊎◌, ⊎_elim, inl, inr, List, [], ◌∷◌, ◌++◌, length, sym, refl, ap, ◌∙◌, arith}
use Rattle.std.specs.List.{flat_map, range_with_len}
use mathlib.Core.Option.{some, some-injective, some-ne-none}
use lib.ListN.{get_elem?}

module _ {A : Type 0} where
  -- an item of two lists is one of the first, or one of the second
  pub at_joined : (l m : List A) (k : ℕ) (p : A) → get_elem? (l ++ m) k ≡ some p → (get_elem? l k ≡ some p) ⊎ ((j : ℕ) × (k ≡ length l + j) × (get_elem? m j ≡ some p))
  at_joined [] m k p e = inr (k, omega arith, e)
  at_joined (x ∷ l) m zero p e = inl e
  at_joined (x ∷ l) m (suc k) p e = ⊎_elim (λ (a : get_elem? l k ≡ some p). inl a) (λ (b : (j : ℕ) × (k ≡ length l + j) × (get_elem? m j ≡ some p)). let same = b.1 in inr (b.0, omega arith, b.2)) (at_joined l m k p e)

  pub at_first : (l m : List A) (k : ℕ) (p : A) → get_elem? l k ≡ some p → get_elem? (l ++ m) k ≡ some p
  at_first [] m k p e = absurd (some-ne-none p (sym e))
  at_first (x ∷ l) m zero p e = e
  at_first (x ∷ l) m (suc k) p e = at_first l m k p e

  pub at_second : (l m : List A) (j : ℕ) (p : A) → get_elem? m j ≡ some p → (k : ℕ) × (get_elem? (l ++ m) k ≡ some p)
  at_second [] m j p e = (j, e)
  at_second (x ∷ l) m j p e = let r = at_second l m j p e in (suc r.0, r.1)

  pub place_below : (l : List A) (k : ℕ) (p : A) → get_elem? l k ≡ some p → k < length l
  place_below [] k p e = absurd (some-ne-none p (sym e))
  place_below (x ∷ l) zero p e = omega arith
  place_below (x ∷ l) (suc k) p e = let r = place_below l k p e in omega arith

module _ {A B : Type 0} (f : A → List B) where
  -- where an item of joined pieces comes from
  pub record IsFrom (l : List A) (p : B) : Type 0 where
    pub place : ℕ
    pub piece : A
    pub at : get_elem? l place ≡ some piece
    pub inner : ℕ
    pub is : get_elem? (f piece) inner ≡ some p

  pub piece_of : (l : List A) (k : ℕ) (p : B) → get_elem? (flat_map f l) k ≡ some p → IsFrom l p
  piece_of [] k p e = absurd (some-ne-none p (sym e))
  piece_of (x ∷ l) k p e = ⊎_elim
      (λ (a : get_elem? (f x) k ≡ some p). record { place = zero; piece = x; at = refl; inner = k; is = a })
      (λ (b : (j : ℕ) × (k ≡ length (f x) + j) × (get_elem? (flat_map f l) j ≡ some p)). let r = piece_of l b.0 p b.2 in record { place = suc r.place; piece = r.piece; at = r.at; inner = r.inner; is = r.is })
      (at_joined (f x) (flat_map f l) k p e)

  pub in_piece : (l : List A) (i j : ℕ) (a : A) (p : B) → get_elem? l i ≡ some a → get_elem? (f a) j ≡ some p → (k : ℕ) × (get_elem? (flat_map f l) k ≡ some p)
  in_piece [] i j a p at is = absurd (some-ne-none a (sym at))
  in_piece (x ∷ l) zero j a p at is = (j, at_first (f x) (flat_map f l) j p (ap (λ z. get_elem? (f z) j) (some-injective x a at) ∙ is))
  in_piece (x ∷ l) (suc i) j a p at is = let r = in_piece l i j a p at is in at_second (f x) (flat_map f l) r.0 p r.1

  -- each item stands once, where each piece has it once, and no two pieces have it
  pub once_joined : (l : List A) → ((i : ℕ) (a : A) (p : B) (j k : ℕ) → get_elem? l i ≡ some a → get_elem? (f a) j ≡ some p → get_elem? (f a) k ≡ some p → j ≡ k)
      → ((p : B) (i h : ℕ) (a b : A) (j k : ℕ) → get_elem? l i ≡ some a → get_elem? l h ≡ some b → get_elem? (f a) j ≡ some p → get_elem? (f b) k ≡ some p → i ≡ h)
      → (p : B) (j k : ℕ) → get_elem? (flat_map f l) j ≡ some p → get_elem? (flat_map f l) k ≡ some p → j ≡ k
  once_joined [] within across p j k a b = absurd (some-ne-none p (sym a))
  once_joined (x ∷ l) within across p j k a b = ⊎_elim
      (λ (c : get_elem? (f x) j ≡ some p). ⊎_elim
      (λ (d : get_elem? (f x) k ≡ some p). within zero x p j k refl c d)
      (λ (d : (i : ℕ) × (k ≡ length (f x) + i) × (get_elem? (flat_map f l) i ≡ some p)). absurd (apart j c d.0 d.2))
      (at_joined (f x) (flat_map f l) k p b))
      (λ (c : (i : ℕ) × (j ≡ length (f x) + i) × (get_elem? (flat_map f l) i ≡ some p)). ⊎_elim
      (λ (d : get_elem? (f x) k ≡ some p). absurd (apart k d c.0 c.2))
      (λ (d : (i : ℕ) × (k ≡ length (f x) + i) × (get_elem? (flat_map f l) i ≡ some p)). let same = once_joined l (λ n y q u v at e g. within (suc n) y q u v at e g) (λ q n m y z u v at bt e g. let s = across q (suc n) (suc m) y z u v at bt e g in omega arith) p c.0 d.0 c.2 d.2 in let u = c.1 in let v = d.1 in omega arith)
      (at_joined (f x) (flat_map f l) k p b))
      (at_joined (f x) (flat_map f l) j p a)
    where
      apart : (i : ℕ) → get_elem? (f x) i ≡ some p → (h : ℕ) → get_elem? (flat_map f l) h ≡ some p → ⊥
      apart i c h d = let r = piece_of l h p d in let e = across p zero (suc r.place) x r.piece i r.inner refl r.at c r.is in omega arith

-- ---- numbers one after another

pub number_at : (i n k p : ℕ) → get_elem? (range_with_len i n) k ≡ some p → (k < n) × (p ≡ i + k)
number_at i zero k p e = absurd (some-ne-none p (sym e))
number_at i (suc n) zero p e = let same = some-injective i p e in (omega arith, omega arith)
number_at i (suc n) (suc k) p e = let r = number_at (i + 1) n k p e in let a = r.0 in let b = r.1 in (omega arith, omega arith)

pub nth_number : (i n k : ℕ) → k < n → get_elem? (range_with_len i n) k ≡ some (i + k)
nth_number i zero k lt = absurd (omega arith)
nth_number i (suc n) zero lt = ap some (let z : i ≡ i + 0 = omega arith in z)
nth_number i (suc n) (suc k) lt = nth_number (i + 1) n k (omega arith) ∙ ap some (let z : i + 1 + k ≡ i + suc k = omega arith in z)

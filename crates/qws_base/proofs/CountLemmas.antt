-- A list that has the numbers of a set each once has as many of a kind as the set.
use Rattle.std.proofs.Common.{◌≡◌, ◌≢◌, ℕ, zero, suc, ◌+◌, ◌<◌, ◌==◌, cond, eq-eqb, ne_eqb, if◌then◌else◌, Bool, true, false, ◌&&◌, List, [], ◌∷◌, length, sym, refl, ap, ◌∙◌, arith}
use Rattle.std.specs.List.{filter, range_with_len}
use mathlib.Core.Option.{some, some-injective, some-ne-none}
use mathlib.Core.Logic.{dite}
use native.Mathlib.Decide.{ℕ_discrete}
use lib.ListN.{get_elem?}
use Rattle.qws_base.proofs.JoinedLemmas.{number_at, nth_number}

abbrev total : {A : Type 0} → (A → ℕ) → List A → ℕ
total f [] = 0
total f (x ∷ l) = f x + total f l

bit : Bool → ℕ
bit true = 1
bit false = 0

module _ {A : Type 0} where
  total_zero : (f : A → ℕ) (l : List A) → ((k : ℕ) (a : A) → get_elem? l k ≡ some a → f a ≡ 0) → total f l ≡ 0
  total_zero f [] none = refl
  total_zero f (x ∷ l) none = let a = none 0 x refl in let b = total_zero f l (λ k a e. none (suc k) a e) in omega arith

  total_only : (f : A → ℕ) (l : List A) (k : ℕ) (a : A) → get_elem? l k ≡ some a → ((j : ℕ) (b : A) → get_elem? l j ≡ some b → j ≢ k → f b ≡ 0) → total f l ≡ f a
  total_only f [] k a at none = absurd (some-ne-none a (sym at))
  total_only f (x ∷ l) zero a at none = let rest = total_zero f l (λ j b e. none (suc j) b e (λ same. absurd (omega arith))) in let here : f x ≡ f a = ap f (some-injective x a at) in omega arith
  total_only f (x ∷ l) (suc k) a at none = let here = none 0 x refl (λ same. absurd (omega arith)) in let rest = total_only f l k a at (λ j b e away. none (suc j) b e (λ same. away (omega arith))) in omega arith

  total_same : (f g : A → ℕ) (l : List A) → ((k : ℕ) (a : A) → get_elem? l k ≡ some a → f a ≡ g a) → total f l ≡ total g l
  total_same f g [] same = refl
  total_same f g (x ∷ l) same = let a = same 0 x refl in let b = total_same f g l (λ k a e. same (suc k) a e) in omega arith

  total_sum : (f g : A → ℕ) (l : List A) → total (λ a. f a + g a) l ≡ total f l + total g l
  total_sum f g [] = refl
  total_sum f g (x ∷ l) = let r = total_sum f g l in omega arith

  length_filter : (g : A → Bool) (l : List A) → length (filter g l) ≡ total (λ a. bit (g a)) l
  unfolding bit
  length_filter g [] = refl
  length_filter g (x ∷ l) = go (g x) (length_filter g l)
    where
      go : (b : Bool) → length (filter g l) ≡ total (λ a. bit (g a)) l → length (cond b (x ∷ filter g l) (filter g l)) ≡ bit b + total (λ a. bit (g a)) l
      go true r = omega arith
      go false r = omega arith

  both_filters : (f g : A → Bool) (l : List A) → length (filter g (filter f l)) ≡ total (λ a. bit (f a && g a)) l
  unfolding bit
  both_filters f g [] = refl
  both_filters f g (x ∷ l) = go (f x) (both_filters f g l)
    where
      pick : (c : Bool) → length (filter g (filter f l)) ≡ total (λ a. bit (f a && g a)) l → length (cond c (x ∷ filter g (filter f l)) (filter g (filter f l))) ≡ bit c + total (λ a. bit (f a && g a)) l
      pick true r = omega arith
      pick false r = omega arith

      go : (b : Bool) → length (filter g (filter f l)) ≡ total (λ a. bit (f a && g a)) l → length (filter g (cond b (x ∷ filter f l) (filter f l))) ≡ bit (b && g x) + total (λ a. bit (f a && g a)) l
      go true r = pick (g x) r
      go false r = omega arith

-- the totals of rows and of columns are the same
crossed : {A B : Type 0} (h : A → B → ℕ) (l : List A) (m : List B) → total (λ a. total (h a) m) l ≡ total (λ b. total (λ a. h a b) l) m
crossed h [] m = sym (total_zero (λ b. 0) m (λ k b e. refl))
crossed h (x ∷ l) m = ap (λ n. total (h x) m + n) (crossed h l m) ∙ sym (total_sum (h x) (λ b. total (λ a. h a b) l) m)

-- a place among the first numbers
number_is : (n k q : ℕ) → get_elem? (range_with_len 0 n) k ≡ some q → (q ≡ k) × (k < n)
number_is n k q at = let r = number_at 0 n k q at in let below = r.0 in let same = r.1 in (omega arith, below)

module _ (n : ℕ) (mine g : ℕ → Bool) (ps : List ℕ) (each : (k p : ℕ) → get_elem? ps k ≡ some p → (p < n) × (mine p ≡ true)) (all : (p : ℕ) → p < n → mine p ≡ true → g p ≡ true → (k : ℕ) × (get_elem? ps k ≡ some p))
    (once : (j k p : ℕ) → get_elem? ps j ≡ some p → get_elem? ps k ≡ some p → j ≡ k) where
  at_place : ℕ → ℕ → ℕ
  at_place p q = if p == q then bit (g p) else 0

  -- the row of a pixel has it once
  row_total : (p : ℕ) → p < n → total (at_place p) (range_with_len 0 n) ≡ bit (g p)
  unfolding at_place
  row_total p lt = total_only (at_place p) (range_with_len 0 n) p p (nth_number 0 n p lt ∙ ap some (let z : 0 + p ≡ p = omega arith in z))
      (λ j q at away. let is = (number_is n j q at).0 in ap (λ b. if b then bit (g p) else 0) (ne_eqb p q (λ same. away (omega arith)))) ∙ ap (λ b. if b then bit (g p) else 0) (eq-eqb p p refl)

  -- the column of a pixel has it once where it is mine and has ink
  column_total : (q : ℕ) → q < n → (b : Bool) → mine q ≡ b → total (λ p. at_place p q) ps ≡ bit (b && g q)
  unfolding at_place bit
  column_total q lt true is = by_ink (g q) refl
    where
      by_ink : (b : Bool) → g q ≡ b → total (λ p. at_place p q) ps ≡ bit (g q)
      by_ink true has = let at = all q lt is has in
          total_only (λ p. at_place p q) ps at.0 q at.1 (λ j p at_p away. ap (λ b. if b then bit (g p) else 0) (ne_eqb p q (λ same. away (once j at.0 q (at_p ∙ ap (λ (k : ℕ). some k) same) at.1)))) ∙ ap (λ b. if b then bit (g q) else 0) (eq-eqb q q refl)
      by_ink false has = total_zero (λ p. at_place p q) ps (λ j p at_p. dite (ℕ_discrete p q)
          (λ (same : p ≡ q). ap (λ b. if b then bit (g p) else 0) (eq-eqb p q same) ∙ ap bit (ap g same ∙ has))
          (λ (ne : p ≢ q). ap (λ b. if b then bit (g p) else 0) (ne_eqb p q ne))) ∙ sym (ap bit has)
  column_total q lt false is = total_zero (λ p. at_place p q) ps (λ j p at_p. ap (λ b. if b then bit (g p) else 0) (ne_eqb p q (λ same. absurd (let m : mine q ≡ true = ap mine (sym same) ∙ (each j p at_p).1 in cc))))
      ∙ none
    where
      none : 0 ≡ bit (false && g q)
      none = refl

  pub counted : length (filter g ps) ≡ length (filter g (filter mine (range_with_len 0 n)))
  counted =
      length_filter g ps
      ∙ total_same (λ p. bit (g p)) (λ p. total (at_place p) (range_with_len 0 n)) ps (λ k p at. sym (row_total p (each k p at).0))
      ∙ crossed at_place ps (range_with_len 0 n)
      ∙ total_same (λ q. total (λ p. at_place p q) ps) (λ q. bit (mine q && g q)) (range_with_len 0 n) (λ k q at. let is = number_is n k q at in let a = is.0 in let b = is.1 in column_total q (omega arith) (mine q) refl)
      ∙ sym (both_filters mine g (range_with_len 0 n))

-- Where a list is cut.
use Rattle.std.proofs.Common.{◌≡◌, ℕ, ◌+◌, ◌-◌, ◌<◌, suc, List, [], ◌∷◌, length, take, drop, None, Some, Bool, true, false, cond, nat_lt, not, refl, ap, sym, ◌∙◌, arith, subst}
use Rattle.std.specs.List.{slice_split, position, position_or_len, onto_first}
use Rattle.std.proofs.lemmas.List.Splits.{slice_split_first}
use Rattle.std.proofs.lemmas.List.{length-drop}
use Rattle.std.proofs.lemmas.Option.{cond_some}
use Rattle.std.proofs.lemmas.Bool.Decides.{nat_tests}
use Rattle.std.proofs.Math.Seq.{take-length}
use borrow.Author.Tests.{ltb-true}

-- `&bytes[at..]`, as goals have it
pub rest_of : (bytes : List ℕ) (at : ℕ) → take (length bytes - at) (drop at bytes) ≡ drop at bytes
rest_of bytes at = ap (λ n. take n (drop at bytes)) (sym (length-drop at bytes)) ∙ take-length (drop at bytes)

none_at : (b : Bool) (k n : ℕ) (xs : List ℕ) (x : ℕ) (split : List (List ℕ)) → nat_lt (cond (not b) (1 + k) 0) (suc n) ≡ false → (nat_lt k n ≡ false → split ≡ xs ∷ []) → cond b ([] ∷ split) (onto_first x split) ≡ (x ∷ xs) ∷ []
none_at true k n xs x split late rest = absurd (grind (arith, nat_tests))
none_at false k n xs x split late rest = ap (onto_first x) (rest (grind (arith, nat_tests)))

none_split : (p : ℕ → Bool) (xs : List ℕ) → nat_lt (position_or_len p xs) (length xs) ≡ false → slice_split p xs ≡ xs ∷ []
none_split p [] late = refl
none_split p (x ∷ xs) late = none_at (p x) (position_or_len p xs) (length xs) xs x (slice_split p xs) late (none_split p xs)

cond_none : {A : Type 0} (b : Bool) (x : A) → cond b (Some x) None ≡ None → b ≡ false
cond_none true x e = cc
cond_none false x e = refl

pub cut_none : (p : ℕ → Bool) (xs : List ℕ) → position p xs ≡ None → slice_split p xs ≡ xs ∷ []
cut_none p xs e = none_split p xs (cond_none _ _ e)

pub cut_some : (p : ℕ → Bool) (xs : List ℕ) (i : ℕ) → position p xs ≡ Some i → slice_split p xs ≡ take i xs ∷ slice_split p (drop (i + 1) xs)
cut_some p xs i e =
    let found = cond_some _ _ _ e in
    subst (λ k. slice_split p xs ≡ take k xs ∷ slice_split p (drop (k + 1) xs)) found.1 (slice_split_first p xs 0 (ltb-true _ _ found.0))

pub cut_within : (p : ℕ → Bool) (xs : List ℕ) (i : ℕ) → position p xs ≡ Some i → i < length xs
cut_within p xs i e =
    let found = cond_some _ _ _ e in
    subst (λ k. k < length xs) found.1 (ltb-true _ _ found.0)

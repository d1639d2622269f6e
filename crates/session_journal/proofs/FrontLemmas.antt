-- The digits at the front of a text, and their number.
use Rattle.std.proofs.Common.{◌≡◌, ℕ, ◌+◌, ◌*◌, ◌≤◌, List, [], ◌∷◌, None, Some, length, take, min, nat_lt, Bool, true, false, cond, not, refl, ap, sym, ◌∙◌, arith}
use Rattle.std.specs.List.{list_all, position, position_or_len}
use Rattle.std.proofs.lemmas.List.{take_all}
use Rattle.std.proofs.lemmas.List.Recursion.{is_position_or_len}
use Rattle.std.proofs.lemmas.Bool.{and_from}
use Rattle.std.proofs.lemmas.Bool.Decides.{nat_tests}
use Rattle.session_journal.specs.Places.{is_digit}
use Rattle.session_journal.specs.Commented.{front_digits}

front_len : (text : List ℕ) → length (front_digits text) ≡ position_or_len (λ c. not (is_digit c)) text
front_len text = is_position_or_len (λ xs. length (front_digits xs)) (λ c. not (is_digit c)) refl (λ x xs. by_digit (is_digit x) x (front_digits xs)) text
  where
    by_digit : (b : Bool) (x : ℕ) (xs : List ℕ) → length (cond b (x ∷ xs) []) ≡ cond (not b) 0 (1 + length xs)
    by_digit true x xs = omega arith
    by_digit false x xs = refl

front_take : (text : List ℕ) → take (length (front_digits text)) text ≡ front_digits text
front_take [] = refl
front_take (x ∷ xs) = by_digit (is_digit x) (front_digits xs) (front_take xs)
  where
    by_digit : (b : Bool) (front : List ℕ) → take (length front) xs ≡ front → take (length (cond b (x ∷ front) [])) (x ∷ xs) ≡ cond b (x ∷ front) []
    by_digit true front h = ap (λ (l : List ℕ). x ∷ l) h
    by_digit false front h = refl

pub front_all : (text : List ℕ) → list_all is_digit (front_digits text) ≡ true
front_all [] = refl
front_all (x ∷ xs) = by_digit (is_digit x) refl (front_all xs)
  where
    by_digit : (b : Bool) → is_digit x ≡ b → list_all is_digit (front_digits xs) ≡ true → list_all is_digit (cond b (x ∷ front_digits xs) []) ≡ true
    by_digit true is rest = and_from (is_digit x) (list_all is_digit (front_digits xs)) is rest
    by_digit false is rest = refl

pub front_some : (text : List ℕ) (k : ℕ) → position (λ c. not (is_digit c)) text ≡ Some k → take k text ≡ front_digits text
front_some text k is = by_test (nat_lt (position_or_len (λ c. not (is_digit c)) text) (length text)) is
  where
    by_test : (b : Bool) → cond b (Some (position_or_len (λ c. not (is_digit c)) text)) None ≡ Some k → take k text ≡ front_digits text
    by_test true found = let same : position_or_len (λ c. not (is_digit c)) text ≡ k = cc in ap (λ (n : ℕ). take n text) (sym same ∙ sym (front_len text)) ∙ front_take text
    by_test false found = cc

pub front_none : (text : List ℕ) → position (λ c. not (is_digit c)) text ≡ None → text ≡ front_digits text
front_none text is = by_test (nat_lt (position_or_len (λ c. not (is_digit c)) text) (length text)) refl is
  where
    by_test : (b : Bool) → nat_lt (position_or_len (λ c. not (is_digit c)) text) (length text) ≡ b → cond b (Some (position_or_len (λ c. not (is_digit c)) text)) None ≡ None → text ≡ front_digits text
    by_test true test found = cc
    by_test false test found =
        let long : length text ≤ position_or_len (λ c. not (is_digit c)) text = grind (arith, nat_tests) in
        sym (take_all (length (front_digits text)) text (omega (arith, front_len text))) ∙ front_take text

-- one digit more, up to a bound
pub bounded_more : (n d most : ℕ) → min (min n most * 10 + d) most ≡ min (n * 10 + d) most
bounded_more n d most = omega arith

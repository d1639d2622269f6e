-- Which words are of the table.
use Rattle.std.proofs.Common.{◌≡◌, ℕ, ◌<◌, ◌≤◌, nat_lt, inl, inr, ⊎_elim, if◌then◌else◌, true, false, sym, ap, ◌∙◌, arith}
use Rattle.std.proofs.lemmas.Bool.{false≢true, cases_lt}
use Rattle.std.proofs.lemmas.Bool.Decides.{nat_tests}
use Rattle.region_table.specs.Numbers.{IsTableWord, is_table_word, IsLineWord, KindLaw}

pub table_is : (i : ℕ) → IsTableWord i → is_table_word i ≡ true
table_is i t = ⊎_elim (λ (a : (1 ≤ i) × (i ≤ 1027)). low i a.0 a.1) (λ (b : (2052 ≤ i) × (i ≤ 10631)). high i b.0 b.1) t
  where
    low : (i : ℕ) → 1 ≤ i → i ≤ 1027 → is_table_word i ≡ true
    low i a b = let x : nat_lt i 1028 ≡ true = grind (arith, nat_tests) in let y : nat_lt 0 i ≡ true = grind (arith, nat_tests) in
        ap (λ t. if t then nat_lt 0 i else (if nat_lt i 2052 then false else nat_lt i 10632)) x ∙ y

    high : (i : ℕ) → 2052 ≤ i → i ≤ 10631 → is_table_word i ≡ true
    high i a b = let x : nat_lt i 1028 ≡ false = grind (arith, nat_tests) in let y : nat_lt i 2052 ≡ false = grind (arith, nat_tests) in let z : nat_lt i 10632 ≡ true = grind (arith, nat_tests) in
        ap (λ t. if t then nat_lt 0 i else (if nat_lt i 2052 then false else nat_lt i 10632)) x ∙ ap (λ t. if t then false else nat_lt i 10632) y ∙ z

pub line_is : (i : ℕ) → IsLineWord i → is_table_word i ≡ false
line_is i l = ⊎_elim (λ (a : (1028 ≤ i) × (i < 2052)). low i a.0 a.1) (λ (b : 10632 ≤ i). high i b) l
  where
    low : (i : ℕ) → 1028 ≤ i → i < 2052 → is_table_word i ≡ false
    low i a b = let x : nat_lt i 1028 ≡ false = grind (arith, nat_tests) in let y : nat_lt i 2052 ≡ true = grind (arith, nat_tests) in
        ap (λ t. if t then nat_lt 0 i else (if nat_lt i 2052 then false else nat_lt i 10632)) x ∙ ap (λ t. if t then false else nat_lt i 10632) y

    high : (i : ℕ) → 10632 ≤ i → is_table_word i ≡ false
    high i a = let x : nat_lt i 1028 ≡ false = grind (arith, nat_tests) in let y : nat_lt i 2052 ≡ false = grind (arith, nat_tests) in let z : nat_lt i 10632 ≡ false = grind (arith, nat_tests) in
        ap (λ t. if t then nat_lt 0 i else (if nat_lt i 2052 then false else nat_lt i 10632)) x ∙ ap (λ t. if t then false else nat_lt i 10632) y ∙ z

pub table_positive : (i : ℕ) → IsTableWord i → 1 ≤ i
table_positive i t = ⊎_elim (λ (a : (1 ≤ i) × (i ≤ 1027)). a.0) (λ (b : (2052 ≤ i) × (i ≤ 10631)). let z = b.0 in omega arith) t

pub table_below : (i : ℕ) → IsTableWord i → i < 10632
table_below i t = ⊎_elim (λ (a : (1 ≤ i) × (i ≤ 1027)). let z = a.1 in omega arith) (λ (b : (2052 ≤ i) × (i ≤ 10631)). let z = b.1 in omega arith) t

pub line_far : (i : ℕ) → IsLineWord i → 1028 ≤ i
line_far i t = ⊎_elim (λ (a : (1028 ≤ i) × (i < 2052)). a.0) (λ (b : 10632 ≤ i). omega arith) t

pub not_both : (i j : ℕ) → IsTableWord i → IsLineWord j → i ≡ j → ⊥
not_both i j t l e = false≢true (sym (line_is j l) ∙ ap is_table_word (sym e) ∙ table_is i t)

-- a word but the gate that is not of the table is a line word
pub line_word : (x : ℕ) → 1 ≤ x → is_table_word x ≡ false → IsLineWord x
line_word x one not = ⊎_elim
    (λ (low : x < 1028). absurd (let a : nat_lt x 1028 ≡ true = grind (arith, nat_tests) in let b : nat_lt 0 x ≡ true = grind (arith, nat_tests) in
    let c : is_table_word x ≡ true = ap (λ t. if t then nat_lt 0 x else (if nat_lt x 2052 then false else nat_lt x 10632)) a ∙ b in cc))
    (λ (high : 1028 ≤ x). ⊎_elim
    (λ (low : x < 2052). inl (high, low))
    (λ (more : 2052 ≤ x). ⊎_elim
    (λ (low : x < 10632). absurd (let a : nat_lt x 1028 ≡ false = grind (arith, nat_tests) in let b : nat_lt x 2052 ≡ false = grind (arith, nat_tests) in let d : nat_lt x 10632 ≡ true = grind (arith, nat_tests) in
    let c : is_table_word x ≡ true = ap (λ t. if t then nat_lt 0 x else (if nat_lt x 2052 then false else nat_lt x 10632)) a ∙ ap (λ t. if t then false else nat_lt x 10632) b ∙ d in cc))
    (λ (far : 10632 ≤ x). inr far)
    (cases_lt x 10632))
    (cases_lt x 2052))
    (cases_lt x 1028)

pub kind_law : KindLaw
kind_law = record {
  table = table_is;
  line = line_is;
  back = λ i is. ⊎_elim
      (λ (low : i < 1). absurd (let a : nat_lt i 1028 ≡ true = grind (arith, nat_tests) in let b : nat_lt 0 i ≡ false = grind (arith, nat_tests) in
      let c : is_table_word i ≡ false = ap (λ t. if t then nat_lt 0 i else (if nat_lt i 2052 then false else nat_lt i 10632)) a ∙ b in cc))
      (λ (one : 1 ≤ i). ⊎_elim
      (λ (low : i < 1028). inl (one, omega arith))
      (λ (high : 1028 ≤ i). ⊎_elim
      (λ (saved : i < 2052). absurd (let c = line_is i (inl (high, saved)) in cc))
      (λ (row : 2052 ≤ i). ⊎_elim
      (λ (table : i < 10632). inr (row, omega arith))
      (λ (far : 10632 ≤ i). absurd (let c = line_is i (inr far) in cc))
      (cases_lt i 10632))
      (cases_lt i 2052))
      (cases_lt i 1028))
      (cases_lt i 1);
  other = line_word;
}

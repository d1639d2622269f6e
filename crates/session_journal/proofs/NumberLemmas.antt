-- Digits of a number without leading zero, and the decimal text of its value.
use Rattle.std.proofs.Common.{◌≡◌, ℕ, ◌+◌, ◌-◌, ◌*◌, ◌/◌, ◌%◌, ◌^◌, ◌<◌, ◌≤◌, ◌++◌, [], ◌∷◌, List, true, refl, sym, ap, ◌∙◌, append_assoc, append-nil, arith}
use Rattle.std.specs.List.{list_all}
use Rattle.std.specs.Fmt.{decimal}
use Rattle.std.proofs.lemmas.Fmt.{decimal_step, decimal_by_steps, decimal_digit}
use Rattle.std.proofs.lemmas.List.Folds.{list_all-append}
use Rattle.std.proofs.lemmas.Bool.{and_parts, and_from}
use Rattle.std.proofs.lemmas.Bool.Decides.{nat_tests}
use Rattle.session_journal.specs.Places.{is_digit, value_on}

pub digit_range : (c : ℕ) → is_digit c ≡ true → (48 ≤ c) × (c ≤ 57)
digit_range c h = (grind (arith, nat_tests), grind (arith, nat_tests))

pub value_more : (n : ℕ) (ds : List ℕ) (d : ℕ) → value_on n (ds ++ d ∷ []) ≡ 10 * value_on n ds + (d - 48)
value_more n [] d = refl
value_more n (e ∷ ds) d = value_more (10 * n + (e - 48)) ds d

pub value_least : (n : ℕ) (ds : List ℕ) → n ≤ value_on n ds
value_least n [] = omega arith
value_least n (d ∷ ds) = omega (arith, value_least (10 * n + (d - 48)) ds)

decimal_next : (n d : ℕ) → 1 ≤ n → 48 ≤ d → d ≤ 57 → 10 * n + (d - 48) < 2 ^ 64 → decimal (10 * n + (d - 48)) ≡ decimal n ++ d ∷ []
decimal_next n d some low high small =
    let m = 10 * n + (d - 48) in
    let front : m / 10 ≡ n = omega arith in
    let last : 48 + m % 10 ≡ d = omega arith in
    decimal_step m (omega arith) small ∙ ap (λ (k : ℕ). decimal k ++ (48 + m % 10) ∷ []) front ∙ ap (λ (k : ℕ). decimal n ++ k ∷ []) last

-- digits behind a number
pub decimal_on : (ds : List ℕ) (n : ℕ) → list_all is_digit ds ≡ true → 1 ≤ n → value_on n ds < 2 ^ 64 → decimal (value_on n ds) ≡ decimal n ++ ds
decimal_on [] n all some small = sym (append-nil (decimal n))
decimal_on (d ∷ ds) n all some small =
    let parts = and_parts (is_digit d) (list_all is_digit ds) all in
    let range = digit_range d parts.0 in
    let least = value_least (10 * n + (d - 48)) ds in
    decimal_on ds (10 * n + (d - 48)) parts.1 (omega arith) small
    ∙ ap (λ (l : List ℕ). l ++ ds) (decimal_next n d some range.0 range.1 (omega arith))
    ∙ append_assoc (decimal n) (d ∷ []) ds

pub decimal_first : (d : ℕ) → 49 ≤ d → d ≤ 57 → decimal (d - 48) ≡ d ∷ []
decimal_first d low high = let same : 48 + (d - 48) ≡ d = omega arith in decimal_digit (d - 48) (omega arith) ∙ ap (λ (k : ℕ). k ∷ []) same

-- the text of a number from 1 on: a first digit, and others
pub record Digits (n : ℕ) (text : List ℕ) : Type 0 where
  pub first : ℕ
  pub others : List ℕ
  pub text_is : text ≡ first ∷ others
  pub low : 49 ≤ first
  pub high : first ≤ 57
  pub are_digits : list_all is_digit others ≡ true
  pub value : value_on (first - 48) others ≡ n

one_digit : (n : ℕ) → n < 10 → 1 ≤ n → Digits n ((48 + n) ∷ [])
one_digit n few some = record { first = 48 + n; others = []; text_is = refl; low = omega arith; high = omega arith; are_digits = refl; value = omega arith }

more_digits : (n : ℕ) (ds : List ℕ) → 10 ≤ n → (1 ≤ n / 10 → Digits (n / 10) ds) → 1 ≤ n → Digits n (ds ++ (48 + n % 10) ∷ [])
more_digits n ds ten rest some =
    let p = rest (omega arith) in
    let last : is_digit (48 + n % 10) ≡ true = let low : n % 10 < 10 = omega arith in grind (arith, nat_tests) in
    let value = p.value in
    record {
      first = p.first;
      others = p.others ++ (48 + n % 10) ∷ [];
      text_is = ap (λ (l : List ℕ). l ++ (48 + n % 10) ∷ []) p.text_is;
      low = p.low;
      high = p.high;
      are_digits = list_all-append is_digit p.others ((48 + n % 10) ∷ []) ∙ and_from (list_all is_digit p.others) (list_all is_digit ((48 + n % 10) ∷ [])) p.are_digits (and_from (is_digit (48 + n % 10)) true last refl);
      value = omega (arith, value_more (p.first - 48) p.others (48 + n % 10));
    }

pub decimal_digits : (n : ℕ) → 1 ≤ n → n < 2 ^ 64 → Digits n (decimal n)
decimal_digits n some small = decimal_by_steps (λ n ds. 1 ≤ n → Digits n ds) one_digit more_digits n small some

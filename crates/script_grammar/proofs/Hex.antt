-- Hexadecimal digits are read as printed.
use Rattle.std.proofs.Common.{◌≡◌, ℕ, ◌+◌, ◌*◌, ◌-◌, ◌/◌, ◌%◌, ◌<◌, ◌≤◌, ◌^◌, zero, suc, List, [], ◌∷◌, ◌++◌, length, get_or, Bool, true, false, ◌&&◌, ◌||◌, cond, nat_le, nat_lt, Result, Ok, Err, refl, ap, sym, ◌∙◌, subst, arith, pow-suc, length-append, append_assoc, append-nil, eq-eqb}
use Rattle.std.specs.Prelude.{◌==◌, All}
use Rattle.std.specs.List.{list_all, flat_map}
use Rattle.std.specs.Char.{digit_value}
use Rattle.std.specs.Str.Parse.{digits_value, digits_value_after, AllDigits}
use Rattle.std.proofs.lemmas.Bool.Decides.{nat_tests}
use Rattle.std.proofs.lemmas.Int.Digits.{digits_value-lt, digits_value_push}
use Rattle.script_grammar.specs.Spelling.{is_hex, colour_read}
use Rattle.script_grammar.specs.Limits.{IsColour}
use Rattle.script_grammar.specs.Printing.{hex_digit, hex, colour}
use Rattle.script_grammar.specs.Words.{hex_read}
use Rattle.script_grammar.specs.declared.lines.Cause.{Cause}
use Rattle.script_grammar.specs.declared.lines.Cause.TheVariants.{Number}
use Rattle.script_grammar.proofs.Binds.{cond_ok}
use Rattle.script_grammar.proofs.Spelling.{IsSpelling, ok_same, both, and_true, cond_is}
use borrow.Author.Tests.{eqb-true}

-- ---- a digit

value_of_digit : (d : ℕ) → d < 16 → digit_value (hex_digit d) ≡ d
value_of_digit d small = grind (arith, nat_tests)

is_hex_digit : (d : ℕ) → d < 16 → is_hex (hex_digit d) ≡ true
is_hex_digit d small = grind (arith, nat_tests)

hex_value_small : (c : ℕ) → is_hex c ≡ true → digit_value c < 16
hex_value_small c h = grind (arith, nat_tests)

hex_digit_back : (c : ℕ) → is_hex c ≡ true → hex_digit (digit_value c) ≡ c
hex_digit_back c h = grind (arith, nat_tests)

-- ---- some digits

pub length-hex : (k n : ℕ) → length (hex k n) ≡ k
length-hex zero n = refl
length-hex (suc k) n = length-append (hex k (n / 16)) (hex_digit (n % 16) ∷ []) ∙ (let rest = length-hex k (n / 16) in omega arith)

all_append : (test : ℕ → Bool) (xs : List ℕ) (c : ℕ) → list_all test xs ≡ true → test c ≡ true → list_all test (xs ++ c ∷ []) ≡ true
all_append test [] c h k = and_true (test c) true k refl
all_append test (x ∷ xs) c h k = let parts = both (test x) (list_all test xs) h in and_true (test x) (list_all test (xs ++ c ∷ [])) parts.0 (all_append test xs c parts.1 k)

pub hex_all : (k n : ℕ) → list_all is_hex (hex k n) ≡ true
hex_all zero n = refl
hex_all (suc k) n = all_append is_hex (hex k (n / 16)) (hex_digit (n % 16)) (hex_all k (n / 16)) (is_hex_digit (n % 16) (omega arith))

hex_value : (k n : ℕ) → n < 16 ^ k → digits_value 16 (hex k n) ≡ n
hex_value zero n small = omega arith
hex_value (suc k) n small =
    let front : n < 16 ^ k * 16 = rw pow-suc at small in
    let less : n / 16 < 16 ^ k = omega arith in
    let first = hex_value k (n / 16) less in
    let last : digit_value (hex_digit (n % 16)) ≡ n % 16 = value_of_digit (n % 16) (omega arith) in
    digits_value_push 16 (hex k (n / 16)) (hex_digit (n % 16)) ∙ omega (arith, first, last)

hex_back_step : (j m v : ℕ) (cs : List ℕ) → v < 16 → hex (suc j) (m * 16 + v) ++ cs ≡ hex j m ++ hex_digit v ∷ cs
hex_back_step j m v cs small =
    let front : (m * 16 + v) / 16 ≡ m = omega arith in
    let last : (m * 16 + v) % 16 ≡ v = omega arith in
    (λ i. (hex j (front i) ++ hex_digit (last i) ∷ []) ++ cs) ∙ append_assoc (hex j m) (hex_digit v ∷ []) cs

hex_back_after : (j m : ℕ) (w : List ℕ) → list_all is_hex w ≡ true → hex (j + length w) (digits_value_after 16 m w) ≡ hex j m ++ w
hex_back_after j m [] h = ap (λ k. hex k m) (let e : j + 0 ≡ j = omega arith in e) ∙ sym (append-nil (hex j m))
hex_back_after j m (c ∷ cs) h =
    let parts = both (is_hex c) (list_all is_hex cs) h in
    ap (λ k. hex k (digits_value_after 16 (m * 16 + digit_value c) cs)) (let e : j + suc (length cs) ≡ suc j + length cs = omega arith in e)
    ∙ hex_back_after (suc j) (m * 16 + digit_value c) cs parts.1
    ∙ hex_back_step j m (digit_value c) cs (hex_value_small c parts.0)
    ∙ ap (λ d. hex j m ++ d ∷ cs) (hex_digit_back c parts.0)

hex_back : (w : List ℕ) → list_all is_hex w ≡ true → hex (length w) (digits_value 16 w) ≡ w
hex_back w h = ap (λ k. hex k (digits_value 16 w)) (let e : length w ≡ 0 + length w = omega arith in e) ∙ hex_back_after 0 0 w h

hex_digits : (w : List ℕ) → list_all is_hex w ≡ true → AllDigits 16 w
hex_digits [] h = tt
hex_digits (c ∷ cs) h = let parts = both (is_hex c) (list_all is_hex cs) h in (hex_value_small c parts.0, hex_digits cs parts.1)

pub hex_reads : (k n : ℕ) → n < 16 ^ k → hex_read (hex k n) ≡ Ok n
unfolding hex_read
hex_reads k n small = cond_is (list_all is_hex (hex k n)) (Ok (digits_value 16 (hex k n))) (Err Number) (hex_all k n) ∙ ap Ok (hex_value k n small)

pub hex_printed : (w : List ℕ) (n : ℕ) → hex_read w ≡ Ok n → (w ≡ hex (length w) n) × (n < 16 ^ length w)
unfolding hex_read
hex_printed w n e =
    let found = cond_ok (list_all is_hex w) (Ok (digits_value 16 w)) Number n e in
    let same = ok_same (digits_value 16 w) n found.1 in
    (sym (hex_back w found.0) ∙ ap (hex (length w)) same, subst (λ v. v < 16 ^ length w) same (digits_value-lt 16 w (hex_digits w found.0)))

-- ---- colours

colour_reads : (c : ℕ) → IsColour c → colour_read (colour c) ≡ Ok c
unfolding colour_read
colour_reads c small =
    cond_is (length (hex 6 c) == 6 && list_all is_hex (hex 6 c)) (Ok (digits_value 16 (hex 6 c))) (Err Number) (and_true (length (hex 6 c) == 6) (list_all is_hex (hex 6 c)) (eq-eqb (length (hex 6 c)) 6 (length-hex 6 c)) (hex_all 6 c))
    ∙ ap Ok (hex_value 6 c small)

colour_printed : (w : List ℕ) (c : ℕ) → colour_read w ≡ Ok c → (w ≡ colour c) × IsColour c
unfolding colour_read
colour_printed w c e =
    let found = cond_ok (length w == 6 && list_all is_hex w) (Ok (digits_value 16 w)) Number c e in
    let parts = both (length w == 6) (list_all is_hex w) found.0 in
    let six : length w ≡ 6 = eqb-true (length w) 6 parts.0 in
    let same = ok_same (digits_value 16 w) c found.1 in
    (sym (hex_back w parts.1) ∙ (λ i. hex (six i) (same i)), subst IsColour same (subst (λ k. digits_value 16 w < 16 ^ k) six (digits_value-lt 16 w (hex_digits w parts.1))))

pub colour_spelling : IsSpelling colour_read colour IsColour
colour_spelling = record { reads = colour_reads; printed = colour_printed }

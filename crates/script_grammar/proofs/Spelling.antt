-- A kind of word (or of words) is read as it is printed.
use Rattle.std.proofs.Common.{◌≡◌, ℕ, ◌+◌, ◌*◌, ◌-◌, ◌/◌, ◌%◌, ◌<◌, ◌≤◌, ◌^◌, zero, suc, ℤ, pos, negsuc, ◌≤ℤ◌, int_le, List, [], ◌∷◌, ◌++◌, length, get_or, eq-eqb, Bool, true, false, ◌&&◌, ◌||◌, cond, nat_le, nat_lt, Result, Ok, Err, refl, ap, sym, ◌∙◌, subst, arith, length-append}
use Rattle.std.specs.Prelude.{◌==◌, not, neg_ℤ, slice_index}
use Rattle.std.specs.List.{list_all}
use Rattle.std.specs.Char.{digit_value}
use Rattle.std.specs.Fmt.{decimal, signed_decimal}
use Rattle.std.specs.Str.Parse.{digits_value, digits_value_after, AllDigits, IsNumeral}
use Rattle.std.specs.Int.Signed.{le_z_yes}
use Rattle.std.proofs.lemmas.Float.{T_from_true}
use Rattle.std.proofs.lemmas.Bool.Decides.{nat_tests}
use Rattle.std.proofs.lemmas.Fmt.{decimal_is_IsNumeral, length-decimal-le, first_decimal, decimal-digits_value, decimal_digit}
use Rattle.std.proofs.lemmas.Str.Parse.{numerals_by_value, tells_digits, digit_from_value}
use Rattle.std.proofs.lemmas.Int.Digits.{digits_value-lt}
use Rattle.script_grammar.specs.Judging.{◌>>=◌, ◌⊛◌}
use Rattle.script_grammar.specs.Spelling.{is_digit, is_number, number_read, in_range, negated, signed_read, below, in_places, place_read, side_read, width_read, height_read}
use Rattle.script_grammar.specs.Limits.{IsSigned}
use Rattle.script_grammar.specs.Words.{short_read, ranged, declared_read, in_signed, coordinate_read}
use Rattle.script_grammar.specs.declared.lines.Cause.{Cause}
use Rattle.script_grammar.specs.declared.lines.Cause.TheVariants.{Number, Range, Unknown}
use Rattle.std.proofs.lemmas.Str.{digit_value_digit}
use Rattle.std.proofs.lemmas.Int.{ints}
use borrow.Author.Tests.{eqb-true}
use Rattle.script_grammar.proofs.Digits.{few_digits}
use Rattle.script_grammar.proofs.Binds.{err_is_no_ok, bind_ok, cond_ok}

-- what is printed is read, and what is read is printed as that and within the limits
pub record IsSpelling {W A : Type 0} (judge : W → Result A Cause) (print : A → W) (Limit : A → Type 0) : Type 0 where
  pub reads : (x : A) → Limit x → judge (print x) ≡ Ok x
  pub printed : (w : W) (x : A) → judge w ≡ Ok x → (w ≡ print x) × Limit x

pub ok_same : {A : Type 0} (x y : A) → ◌≡◌ {A = Result A Cause} (Ok x) (Ok y) → x ≡ y
ok_same x y e = cc

pub both : (a b : Bool) → (a && b) ≡ true → (a ≡ true) × (b ≡ true)
both true b h = (refl, h)
both false b h = cc

pub and_true : (a b : Bool) → a ≡ true → b ≡ true → (a && b) ≡ true
and_true true b h k = k
and_true false b h k = h

-- a test behind a reader
pub bind_is : {A B : Type 0} (r : Result A Cause) (f : A → Result B Cause) (x : A) → r ≡ Ok x → (r >>= f) ≡ f x
bind_is {A} r f x e = ap (λ (o : Result A Cause). o >>= f) e

pub cond_is : {A : Type 0} (b : Bool) (x y : A) → b ≡ true → cond b x y ≡ x
cond_is true x y e = refl
cond_is false x y e = cc

-- ---- unsigned numbers

pub digits_all : (ds : List ℕ) → AllDigits 10 ds → list_all is_digit ds ≡ true
digits_all [] d = refl
digits_all (c ∷ ds) d = let at = digit_from_value c d.0 in and_true (is_digit c) (list_all is_digit ds) (grind (arith, nat_tests)) (digits_all ds d.1)

digit_value_is : (c : ℕ) → is_digit c ≡ true → digit_value c < 10
digit_value_is c h =
    let ends = both (nat_le 48 c) (nat_le c 57) h in
    let low : 48 ≤ c = grind (arith, nat_tests) in
    let high : c ≤ 57 = grind (arith, nat_tests) in
    let value : digit_value c + 48 ≡ c = digit_value_digit c (low, high) in
    omega arith

all_digits : (ds : List ℕ) → list_all is_digit ds ≡ true → AllDigits 10 ds
all_digits [] h = tt
all_digits (c ∷ ds) h = let parts = both (is_digit c) (list_all is_digit ds) h in (digit_value_is c parts.0, all_digits ds parts.1)

or_left : (a b : Bool) → a ≡ true → (a || b) ≡ true
or_left true b h = refl
or_left false b h = cc

or_right : (a b : Bool) → b ≡ true → (a || b) ≡ true
or_right true b h = refl
or_right false b h = h

not_other : (a b : ℕ) → b < a → not (a == b) ≡ true
not_other a b less = grind (arith, nat_tests)

lead_of : (n : ℕ) → n < 100000 → (length (decimal n) == 1 || not (slice_index (decimal n) 0 == 48)) ≡ true
lead_of zero small = or_left _ _ (ap (λ (w : List ℕ). length w == 1) (decimal_digit 0 (omega arith)))
lead_of (suc n) small = or_right _ _ (not_other (slice_index (decimal (suc n)) 0) 48 (first_decimal (suc n) (omega arith) (omega arith)))

number_spelled : (n : ℕ) → n < 100000 → is_number (decimal n) ≡ true
number_spelled n small =
    let k = decimal_is_IsNumeral n (omega arith) in
    let some = k.0.0 in
    let few = length-decimal-le 5 n (omega arith) (omega arith) (omega arith) in
    and_true _ _ (and_true (nat_lt 0 (length (decimal n))) (nat_le (length (decimal n)) 5) (grind (arith, nat_tests)) (grind (arith, nat_tests))) (and_true _ _ (digits_all (decimal n) k.0.1) (lead_of n small))

number_reads : (n : ℕ) → n < 100000 → number_read (decimal n) ≡ Ok n
unfolding number_read
number_reads n small = cond_is (is_number (decimal n)) (Ok (digits_value 10 (decimal n))) (Err Number) (number_spelled n small) ∙ ap Ok (decimal_is_IsNumeral n (omega arith)).1

or_not : (a b : Bool) → (a || not b) ≡ true → b ≡ true → a ≡ true
or_not true b h k = refl
or_not false true h k = h
or_not false false h k = k

number_printed : (w : List ℕ) (n : ℕ) → number_read w ≡ Ok n → (w ≡ decimal n) × (n < 100000)
unfolding number_read
number_printed w n e =
    let found = cond_ok (is_number w) (Ok (digits_value 10 w)) Number n e in
    let same = ok_same (digits_value 10 w) n found.1 in
    let parts = both _ _ found.0 in
    let sizes = both (nat_lt 0 (length w)) (nat_le (length w) 5) parts.0 in
    let rest = both (list_all is_digit w) (length w == 1 || not (slice_index w 0 == 48)) parts.1 in
    let digits = all_digits w rest.0 in
    let some : 0 < length w = grind (arith, nat_tests) in
    let few : length w ≤ 5 = grind (arith, nat_tests) in
    let lead : get_or w 0 0 ≡ 48 → length w ≡ 1 = λ is. eqb-true _ _ (or_not (length w == 1) (slice_index w 0 == 48) rest.1 (eq-eqb _ _ is)) in
    let small : digits_value 10 w < 10 ^ 5 = few_digits 10 (digits_value 10 w) (length w) 5 (omega arith) (digits_value-lt 10 w digits) few in
    let back : decimal (digits_value 10 w) ≡ w = decimal-digits_value (numerals_by_value _ tells_digits) w digits some lead (omega arith) in
    (sym back ∙ ap decimal same, omega arith)

pub number_spelling : IsSpelling number_read decimal (λ n. n < 100000)
number_spelling = record { reads = number_reads; printed = number_printed }

-- ---- a range behind a spelling

pub within : {W A : Type 0} {judge : W → Result A Cause} {print : A → W} {Wide Limit : A → Type 0} (test : A → Result A Cause) → IsSpelling judge print Wide → ((x : A) → Limit x → Wide x × (test x ≡ Ok x)) → ((x y : A) → Wide x → test x ≡ Ok y → (x ≡ y) × Limit y) → IsSpelling (λ w. judge w >>= test) print Limit
within {judge = judge} {print = print} {Limit = Limit} test own into out = record {
  reads = λ x h. let inside = into x h in bind_is (judge (print x)) test x (own.reads x inside.0) ∙ inside.1;
  printed = λ w y e.
      let read = bind_ok (judge w) test y e in
      let is = own.printed w read.0 read.1 in
      let same = out read.0 y is.1 read.2 in
      (is.0 ∙ ap print same.0, same.1);
}

range_reads : (low high n : ℕ) → low ≤ n → n ≤ high → in_range low high n ≡ Ok n
range_reads low high n least most = cond_is (nat_le low n && nat_le n high) (Ok n) (Err Range) (and_true (nat_le low n) (nat_le n high) (grind (arith, nat_tests)) (grind (arith, nat_tests)))

range_printed : (low high n m : ℕ) → in_range low high n ≡ Ok m → (n ≡ m) × ((low ≤ m) × (m ≤ high))
range_printed low high n m e =
    let found = cond_ok (nat_le low n && nat_le n high) (Ok n) Range m e in
    let ends = both (nat_le low n) (nat_le n high) found.0 in
    let same = ok_same n m found.1 in
    (same, subst (λ k. (low ≤ k) × (k ≤ high)) same (grind (arith, nat_tests), grind (arith, nat_tests)))

pub ranged_spelling : (low high : ℕ) → high < 100000 → IsSpelling (ranged low high) decimal (λ n. (low ≤ n) × (n ≤ high))
unfolding ranged
ranged_spelling low high small = within (in_range low high) number_spelling (λ n h. (omega (arith, h.0, h.1), range_reads low high n h.0 h.1)) (λ n m wide e. range_printed low high n m e)

pub short_spelling : IsSpelling short_read decimal (λ n. n ≤ 65535)
unfolding short_read
short_spelling = within (in_range 0 65535) number_spelling (λ n h. (omega (arith, h), range_reads 0 65535 n (omega arith) h)) (λ n m wide e. let r = range_printed 0 65535 n m e in (r.0, r.1.1))

below_printed : (count n m : ℕ) → below count n ≡ Ok m → (n ≡ m) × (m < count)
below_printed count n m e =
    let found = cond_ok (nat_lt n count) (Ok n) Unknown m e in
    let test = found.0 in
    let same = ok_same n m found.1 in
    (same, subst (λ k. k < count) same (grind (arith, nat_tests)))

pub declared_spelling : (count : ℕ) → IsSpelling (declared_read count) decimal (λ n. (n ≤ 65535) × (n < count))
unfolding declared_read
declared_spelling count = within (below count) short_spelling
    (λ n h. (h.0, let less = h.1 in cond_is (nat_lt n count) (Ok n) (Err Unknown) (grind (arith, nat_tests))))
    (λ n m wide e. let r = below_printed count n m e in (r.0, (subst (λ k. k ≤ 65535) r.0 wide, r.1)))

-- ---- signed numbers

pub record IsFive (z : ℤ) : Type 0 where
  pub low : negsuc 99998 ≤ℤ z
  pub high : z ≤ℤ pos 99999

signed_plain_step : (c : ℕ) (word : List ℕ) → is_digit c ≡ true → (c == 45) ≡ false
signed_plain_step c word h = let ends = both (nat_le 48 c) (nat_le c 57) h in grind (arith, nat_tests)

cond_not : {A : Type 0} (b : Bool) (x y : A) → b ≡ false → cond b x y ≡ y
cond_not true x y e = cc
cond_not false x y e = refl

-- a word that begins with a digit has no sign
signed_plain : (w : List ℕ) → 0 < length w → list_all is_digit w ≡ true → signed_read w ≡ (number_read w >>= λ n. Ok (pos n))
unfolding signed_read
signed_plain [] some h = absurd (omega arith)
signed_plain (c ∷ word) some h = cond_not (c == 45) _ _ (signed_plain_step c word (both (is_digit c) (list_all is_digit word) h).0)

some_is_not_none : (n : ℕ) → (suc n == 0) ≡ false
some_is_not_none n = grind (arith, nat_tests)

negated_some : (n : ℕ) → negated (suc n) ≡ Ok (negsuc n)
negated_some n = cond_not (suc n == 0) (Err Number) (Ok (negsuc n)) (some_is_not_none n)

signed_reads : (z : ℤ) → IsFive z → signed_read (signed_decimal z) ≡ Ok z
unfolding signed_read
signed_reads (pos n) h =
    let top = h.high in
    let small : n < 100000 = omega (arith, ints) in
    let k = decimal_is_IsNumeral n (omega arith) in
    signed_plain (decimal n) k.0.0 (digits_all (decimal n) k.0.1) ∙ bind_is (number_read (decimal n)) (λ m. Ok (pos m)) n (number_reads n small)
signed_reads (negsuc n) h =
    let bottom = h.low in
    let small : suc n < 100000 = omega (arith, ints) in
    bind_is (number_read (decimal (suc n))) negated (suc n) (number_reads (suc n) small) ∙ negated_some n

negated_printed : (n : ℕ) (z : ℤ) → negated n ≡ Ok z → n < 100000 → (45 ∷ decimal n ≡ signed_decimal z) × IsFive z
negated_printed zero z e small = err_is_no_ok Number z e
negated_printed (suc n) z e small =
    let same : negsuc n ≡ z = ok_same (negsuc n) z (sym (negated_some n) ∙ e) in
    (ap signed_decimal same, subst IsFive same (record { low = omega (arith, ints); high = omega (arith, ints) }))

plain_printed : (w : List ℕ) (z : ℤ) → (number_read w >>= λ n. Ok (pos n)) ≡ Ok z → (w ≡ signed_decimal z) × IsFive z
plain_printed w z e =
    let read = bind_ok (number_read w) (λ n. Ok (pos n)) z e in
    let number = number_printed w read.0 read.1 in
    let small = number.1 in
    let n = read.0 in
    let same : pos n ≡ z = ok_same (pos n) z read.2 in
    (number.0 ∙ ap signed_decimal same, subst IsFive same (record { low = omega (arith, ints); high = omega (arith, ints) }))

signed_step : (minus : Bool) (c : ℕ) (word : List ℕ) (z : ℤ) → (c == 45) ≡ minus → cond minus (number_read word >>= negated) (number_read (c ∷ word) >>= λ n. Ok (pos n)) ≡ Ok z → (c ∷ word ≡ signed_decimal z) × IsFive z
signed_step true c word z is e =
    let read = bind_ok (number_read word) negated z e in
    let number = number_printed word read.0 read.1 in
    let made = negated_printed read.0 z read.2 number.1 in
    let sign : c ≡ 45 = eqb-true c 45 is in
    (ap (λ d. d ∷ word) sign ∙ ap (λ (w : List ℕ). 45 ∷ w) number.0 ∙ made.0, made.1)
signed_step false c word z is e = plain_printed (c ∷ word) z e

signed_printed : (w : List ℕ) (z : ℤ) → signed_read w ≡ Ok z → (w ≡ signed_decimal z) × IsFive z
unfolding signed_read
signed_printed [] z e = err_is_no_ok Number z e
signed_printed (c ∷ word) z e = signed_step (c == 45) c word z refl e

pub signed_spelling : IsSpelling signed_read signed_decimal IsFive
signed_spelling = record { reads = signed_reads; printed = signed_printed }

le_test : (a b : ℤ) → a ≤ℤ b → int_le a b ≡ true
le_test a b h = grind (arith, ints)

le_told : (a b : ℤ) → int_le a b ≡ true → a ≤ℤ b
le_told a b h = grind (arith, ints)

signed_test : (low high z : ℤ) → low ≤ℤ z → z ≤ℤ high → (int_le low z && int_le z high) ≡ true
signed_test low high z least most = and_true (int_le low z) (int_le z high) (le_test low z least) (le_test z high most)

signed_told : (low high y z : ℤ) → cond (int_le low y && int_le y high) (Ok y) (Err Range) ≡ Ok z → (y ≡ z) × ((low ≤ℤ z) × (z ≤ℤ high))
signed_told low high y z e =
    let found = cond_ok (int_le low y && int_le y high) (Ok y) Range z e in
    let ends = both (int_le low y) (int_le y high) found.0 in
    let same = ok_same y z found.1 in
    (same, subst (λ k. (low ≤ℤ k) × (k ≤ℤ high)) same (le_told low y ends.0, le_told y high ends.1))

is_five : (low high z : ℤ) → negsuc 99998 ≤ℤ low → high ≤ℤ pos 99999 → low ≤ℤ z → z ≤ℤ high → IsFive z
is_five low high z a b c d = record { low = omega (arith, ints); high = omega (arith, ints) }

pub coordinate_spelling : IsSpelling coordinate_read signed_decimal IsSigned
unfolding coordinate_read
coordinate_spelling = within in_signed signed_spelling
    (λ z h. (is_five (negsuc 32767) (pos 32767) z (omega (arith, ints)) (omega (arith, ints)) h.low h.high, cond_is _ (Ok z) (Err Range) (signed_test (negsuc 32767) (pos 32767) z h.low h.high)))
    (λ y z wide e. let r = signed_told (negsuc 32767) (pos 32767) y z e in (r.0, record { low = r.1.0; high = r.1.1 }))

-- a coordinate of a paint
pub record IsPlace (z : ℤ) : Type 0 where
  pub low : negsuc 4095 ≤ℤ z
  pub high : z ≤ℤ pos 4095

pub place_spelling : IsSpelling place_read signed_decimal IsPlace
unfolding place_read
place_spelling = within in_places signed_spelling
    (λ z h. (is_five (negsuc 4095) (pos 4095) z (omega (arith, ints)) (omega (arith, ints)) h.low h.high, cond_is _ (Ok z) (Err Range) (signed_test (negsuc 4095) (pos 4095) z h.low h.high)))
    (λ y z wide e. let r = signed_told (negsuc 4095) (pos 4095) y z e in (r.0, record { low = r.1.0; high = r.1.1 }))

pub side_spelling : IsSpelling side_read decimal (λ n. (1 ≤ n) × (n ≤ 4096))
unfolding side_read
side_spelling = within (in_range 1 4096) number_spelling (λ n h. (omega (arith, h.0, h.1), range_reads 1 4096 n h.0 h.1)) (λ n m wide e. range_printed 1 4096 n m e)

pub width_spelling : IsSpelling width_read decimal (λ n. (1 ≤ n) × (n ≤ 640))
unfolding width_read
width_spelling = within (in_range 1 640) number_spelling (λ n h. (omega (arith, h.0, h.1), range_reads 1 640 n h.0 h.1)) (λ n m wide e. range_printed 1 640 n m e)

pub height_spelling : IsSpelling height_read decimal (λ n. (1 ≤ n) × (n ≤ 480))
unfolding height_read
height_spelling = within (in_range 1 480) number_spelling (λ n h. (omega (arith, h.0, h.1), range_reads 1 480 n h.0 h.1)) (λ n m wide e. range_printed 1 480 n m e)

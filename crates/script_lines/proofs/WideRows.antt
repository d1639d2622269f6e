-- The rows beside a width out of its range: only their digits tell a cause.
use Rattle.std.proofs.Common.{◌≡◌, ℕ, ◌<◌, ◌^◌, List, [], ◌∷◌, length, map, Bool, true, false, ◌&&◌, cond, nat_lt, nat_le, Result, Ok, Err, refl, ap, sym, ◌∙◌, arith, subst}
use Rattle.std.proofs.lemmas.Bool.Decides.{nat_tests}
use Rattle.std.specs.Prelude.{◌==◌, ⊤, if◌then◌else◌}
use Rattle.std.specs.List.{list_all}
use Rattle.std.specs.Borrow.{Bor}
use Rattle.std.specs.Str.Parse.{digits_value}
use Rattle.script_grammar.specs.Judging.{◌⊛◌, ◌>>=◌, each_of}
use Rattle.script_grammar.specs.Printing.{row_digits}
use Rattle.script_grammar.specs.Spelling.{is_hex}
use Rattle.script_grammar.specs.Words.{ranged, hex_read, within_width, row_read}
use Rattle.script_grammar.specs.declared.lines.Cause.{Cause}
use Rattle.script_grammar.specs.declared.lines.Cause.TheVariants.{Number, Range}
use Rattle.script_words.specs.Judged.{joined}
use Rattle.script_words.specs.Rows.{is_row_text}
use Rattle.script_grammar.specs.Spelling.{number_read, in_range}
use Rattle.script_lines.specs.Parts.{rows_read}

-- with the right digits no cause but `range`, and with others `number`
abbrev pub JudgedBy : {A : Type 0} → Bool → Result A Cause → Type 0
JudgedBy true (Ok x) = ⊤
JudgedBy true (Err c) = c ≡ Range
JudgedBy false (Ok x) = ⊥
JudgedBy false (Err c) = c ≡ Number

two_by : {A B C : Type 0} (f : A → B → C) (p q : Bool) (a : Result A Cause) (b : Result B Cause) → JudgedBy p a → JudgedBy q b → JudgedBy (p && q) (Ok f ⊛ a ⊛ b)
two_by f true true (Ok x) (Ok y) h k = tt
two_by f true true (Ok x) (Err d) h k = k
two_by f true true (Err c) (Ok y) h k = h
two_by f true true (Err c) (Err d) h k = rw (h, k) refl
two_by f true false (Ok x) (Ok y) h k = absurd k
two_by f true false (Ok x) (Err d) h k = k
two_by f true false (Err c) (Ok y) h k = absurd k
two_by f true false (Err c) (Err d) h k = rw (h, k) refl
two_by f false true (Ok x) b h k = absurd h
two_by f false true (Err c) (Ok y) h k = h
two_by f false true (Err c) (Err d) h k = rw (h, k) refl
two_by f false false (Ok x) b h k = absurd h
two_by f false false (Err c) (Ok y) h k = absurd k
two_by f false false (Err c) (Err d) h k = rw (h, k) refl

low_by : (low : Bool) (v : ℕ) → JudgedBy true (let r : Result ℕ Cause = cond low (Ok v) (Err Range) in r)
low_by true v = tt
low_by false v = refl

row_by : (width : ℕ) (same hex : Bool) (v : ℕ) → JudgedBy (same && hex) (let r : Result ℕ Cause = cond same ((let s : Result ℕ Cause = cond hex (Ok v) (Err Number) in s) >>= within_width width) (Err Number) in r)
row_by width true true v = low_by (nat_lt v (2 ^ width)) v
row_by width true false v = refl
row_by width false hex v = refl

row_judged : (width : ℕ) (word : List ℕ) → JudgedBy (is_row_text width word) (row_read width word)
unfolding row_read hex_read
row_judged width word = row_by width (length word == row_digits width) (list_all is_hex word) (digits_value 16 word)

rows_judged : (width : ℕ) (words : List (List ℕ)) → JudgedBy (list_all (is_row_text width) words) (each_of (row_read width) words)
rows_judged width [] = tt
rows_judged width (word ∷ words) = two_by (λ y ys. y ∷ ys) (is_row_text width word) (list_all (is_row_text width) words) (row_read width word) (each_of (row_read width) words) (row_judged width word) (rows_judged width words)

beside : {A : Type 0} (spelled : Bool) (cause : Cause) (read : Result A Cause) → JudgedBy spelled read → cause ≡ (if spelled then Range else Number) → joined (let w : Result ℕ Cause = Err Range in w) (let r : Result A Cause = Err cause in r) ≡ joined (let w : Result ℕ Cause = Err Range in w) read
beside true cause (Ok x) h is = rw is refl
beside true cause (Err d) h is = rw (is, h) refl
beside false cause (Ok x) h is = absurd h
beside false cause (Err d) h is = rw (is, h) refl

pub wide_rows : (width : ℕ) (words : List (List ℕ)) (cause : Cause) (spelled : Bool) → list_all (is_row_text width) words ≡ spelled → cause ≡ (if spelled then Range else Number) → joined (let w : Result ℕ Cause = Err Range in w) (let r : Result (List ℕ) Cause = Err cause in r) ≡ joined (let w : Result ℕ Cause = Err Range in w) (each_of (row_read width) words)
wide_rows width words cause spelled is told = beside spelled cause (each_of (row_read width) words) (subst (λ (b : Bool). JudgedBy b (each_of (row_read width) words)) is (rows_judged width words)) told

too_wide : (n : ℕ) → 32 < n → in_range 1 32 n ≡ Err Range
too_wide n wide = rw (let out : (nat_le 1 n && nat_le n 32) ≡ false = grind (arith, nat_tests) in out) refl

range_is : (width : List ℕ) (n : ℕ) → number_read width ≡ Ok n → 32 < n → ranged 1 32 width ≡ Err Range
unfolding ranged
range_is width n is wide = ap (λ (r : Result ℕ Cause). r >>= in_range 1 32) is ∙ too_wide n wide

all_lent : (p : List ℕ → Bool) (words : List (Bor (List ℕ))) → list_all (λ w. p w.now) words ≡ list_all p (map (λ w. w.now) words)
all_lent p [] = refl
all_lent p (w ∷ words) = ap (λ (b : Bool). p w.now && b) (all_lent p words)

pub wide_end : (width : List ℕ) (n : ℕ) (words : List (Bor (List ℕ))) (cause : Cause) → number_read width ≡ Ok n → 32 < n → cause ≡ (if list_all (λ w. is_row_text n w.now) words then Range else Number) → joined (ranged 1 32 width) (let r : Result (List ℕ) Cause = Err cause in r) ≡ joined (ranged 1 32 width) (rows_read width (map (λ w. w.now) words))
wide_end width n words cause is wide told =
    ap (λ (w : Result ℕ Cause). joined w (let r : Result (List ℕ) Cause = Err cause in r)) (range_is width n is wide)
    ∙ wide_rows n (map (λ w. w.now) words) cause (list_all (λ w. is_row_text n w.now) words) (sym (all_lent (is_row_text n) words)) told
    ∙ ap (λ (w : Result ℕ Cause). joined w (each_of (row_read n) (map (λ w. w.now) words))) (sym (range_is width n is wide))
    ∙ ap (λ (r : Result ℕ Cause). joined (ranged 1 32 width) (r >>= λ columns. each_of (row_read columns) (map (λ w. w.now) words))) (sym is)

-- Groups of hexadecimal digits, read one after the other.
use Rattle.std.proofs.Common.{◌≡◌, ℕ, ◌-◌, ◌<◌, ◌≤◌, suc, List, [], ◌∷◌, ◌++◌, length, take, drop, get_or, Bool, true, false, cond, Result, Ok, Err, refl, ap, sym, ◌∙◌, arith, append-nil, length-drop}
use Rattle.std.specs.Prelude.{◌==◌, ⊤}
use Rattle.std.specs.List.{list_all}
use Rattle.std.specs.Str.Parse.{digits_value}
use Rattle.std.proofs.lemmas.Bool.Decides.{nat_tests}
use Rattle.std.proofs.Math.Seq.{take-length}
use Rattle.script_grammar.specs.Judging.{◌⊛◌}
use Rattle.script_grammar.specs.Spelling.{is_hex}
use Rattle.script_grammar.specs.Words.{hex_read, pairs_read, eights_read}
use Rattle.script_grammar.specs.declared.lines.Cause.{Cause}
use Rattle.script_grammar.specs.declared.lines.Cause.TheVariants.{Number}
use Rattle.script_words.specs.Judged.{fronted}
use Rattle.script_words.proofs.Fronts.{fronted_push}

-- no other cause than a wrong spelling
abbrev pub OnlyNumber : {A : Type 0} → Result A Cause → Type 0
OnlyNumber (Ok x) = ⊤
OnlyNumber (Err c) = c ≡ Number

two_only : {A B C : Type 0} (f : A → B → C) (a : Result A Cause) (b : Result B Cause) → OnlyNumber a → OnlyNumber b → OnlyNumber (Ok f ⊛ a ⊛ b)
two_only f (Ok x) (Ok y) h k = tt
two_only f (Ok x) (Err d) h k = k
two_only f (Err c) (Ok y) h k = h
two_only f (Err c) (Err d) h k = rw (h, k) refl

cond_only : {A : Type 0} (b : Bool) (x : A) → OnlyNumber (let r : Result A Cause = cond b (Ok x) (Err Number) in r)
cond_only true x = tt
cond_only false x = refl

hex_only : (word : List ℕ) → OnlyNumber (hex_read word)
unfolding hex_read
hex_only word = cond_only (list_all is_hex word) (digits_value 16 word)

-- one group more
abbrev pub one_more : Result ℕ Cause → Result (List ℕ) Cause → Result (List ℕ) Cause
one_more read next = Ok (λ y ys. y ∷ ys) ⊛ read ⊛ next

group_step : (whole next : Result (List ℕ) Cause) (xs : List ℕ) (x : ℕ) (read : Result ℕ Cause) → read ≡ Ok x → whole ≡ fronted (Ok xs) (one_more read next) → whole ≡ fronted (Ok (xs ++ x ∷ [])) next
group_step whole next xs x read is h = h ∙ ap (λ (r : Result ℕ Cause). fronted (Ok xs) (one_more r next)) is ∙ sym (fronted_push (Ok xs) (Ok x) next)

bad_group : (next : Result (List ℕ) Cause) (xs : List ℕ) (read : Result ℕ Cause) (c : Cause) → OnlyNumber next → OnlyNumber read → read ≡ Err c → fronted (Ok xs) (one_more read next) ≡ Err c
bad_group next xs (Ok x) c h k is = absurd (let e : ⊥ = cc in e)
bad_group (Ok ys) xs (Err d) c h k is = let same : d ≡ c = cc in ap Err same
bad_group (Err e) xs (Err d) c h k is = let same : d ≡ c = cc in (rw (h, k) refl) ∙ ap Err (sym k ∙ same)

-- ---- two digits for each

pairs_only : (word : List ℕ) → OnlyNumber (pairs_read word)
unfolding pairs_read
pairs_only [] = tt
pairs_only (a ∷ []) = refl
pairs_only (a ∷ b ∷ word) = two_only (λ y ys. y ∷ ys) (hex_read (a ∷ b ∷ [])) (pairs_read word) (hex_only (a ∷ b ∷ [])) (pairs_only word)

pairs_next : (a b : ℕ) (rest : List ℕ) → pairs_read (a ∷ b ∷ rest) ≡ one_more (hex_read (a ∷ b ∷ [])) (pairs_read rest)
unfolding pairs_read
pairs_next a b rest = refl

pub pairs_step : (word xs rest : List ℕ) (x : ℕ) → 2 ≤ length rest → hex_read (get_or rest 0 0 ∷ get_or rest 1 0 ∷ []) ≡ Ok x → pairs_read word ≡ fronted (Ok xs) (pairs_read rest) → pairs_read word ≡ fronted (Ok (xs ++ x ∷ [])) (pairs_read (take (length rest - 2) (drop 2 rest)))
pairs_step word xs [] x some is h = absurd (omega arith)
pairs_step word xs (a ∷ []) x some is h = absurd (omega arith)
pairs_step word xs (a ∷ b ∷ rest) x some is h =
    let same : take (suc (suc (length rest)) - 2) rest ≡ rest = ap (λ k. take k rest) (let e : suc (suc (length rest)) - 2 ≡ length rest = omega arith in e) ∙ take-length rest in
    group_step (pairs_read word) (pairs_read rest) xs x (hex_read (a ∷ b ∷ [])) is (h ∙ ap (fronted (Ok xs)) (pairs_next a b rest))
    ∙ ap (λ r. fronted (Ok (xs ++ x ∷ [])) (pairs_read r)) (sym same)

pub pairs_bad : (word xs rest : List ℕ) (c : Cause) → 2 ≤ length rest → hex_read (get_or rest 0 0 ∷ get_or rest 1 0 ∷ []) ≡ Err c → pairs_read word ≡ fronted (Ok xs) (pairs_read rest) → pairs_read word ≡ Err c
pairs_bad word xs [] c some is h = absurd (omega arith)
pairs_bad word xs (a ∷ []) c some is h = absurd (omega arith)
pairs_bad word xs (a ∷ b ∷ rest) c some is h = h ∙ ap (fronted (Ok xs)) (pairs_next a b rest) ∙ bad_group (pairs_read rest) xs (hex_read (a ∷ b ∷ [])) c (pairs_only rest) (hex_only (a ∷ b ∷ [])) is

pub pairs_all : (word xs rest : List ℕ) → (length rest == 0) ≡ true → pairs_read word ≡ fronted (Ok xs) (pairs_read rest) → Ok xs ≡ pairs_read word
unfolding pairs_read
pairs_all word xs [] none h = sym (h ∙ ap Ok (append-nil xs))
pairs_all word xs (a ∷ rest) none h = absurd (grind (arith, nat_tests))

pub pairs_odd : (word xs rest : List ℕ) → (length rest == 0) ≡ false → length rest < 2 → pairs_read word ≡ fronted (Ok xs) (pairs_read rest) → Err Number ≡ pairs_read word
unfolding pairs_read
pairs_odd word xs [] some few h = absurd (grind (arith, nat_tests))
pairs_odd word xs (a ∷ []) some few h = sym h
pairs_odd word xs (a ∷ b ∷ rest) some few h = absurd (omega arith)

-- ---- eight digits for each

eights_only : (word : List ℕ) → OnlyNumber (eights_read word)
unfolding eights_read
eights_only [] = tt
eights_only (a ∷ []) = refl
eights_only (a ∷ b ∷ []) = refl
eights_only (a ∷ b ∷ c ∷ []) = refl
eights_only (a ∷ b ∷ c ∷ d ∷ []) = refl
eights_only (a ∷ b ∷ c ∷ d ∷ e ∷ []) = refl
eights_only (a ∷ b ∷ c ∷ d ∷ e ∷ f ∷ []) = refl
eights_only (a ∷ b ∷ c ∷ d ∷ e ∷ f ∷ g ∷ []) = refl
eights_only (a ∷ b ∷ c ∷ d ∷ e ∷ f ∷ g ∷ h ∷ word) = two_only (λ y ys. y ∷ ys) (hex_read (a ∷ b ∷ c ∷ d ∷ e ∷ f ∷ g ∷ h ∷ [])) (eights_read word) (hex_only (a ∷ b ∷ c ∷ d ∷ e ∷ f ∷ g ∷ h ∷ [])) (eights_only word)

-- the first eight digits
abbrev pub first_eight : List ℕ → List ℕ
first_eight rest = get_or rest 0 0 ∷ get_or rest 1 0 ∷ get_or rest 2 0 ∷ get_or rest 3 0 ∷ get_or rest 4 0 ∷ get_or rest 5 0 ∷ get_or rest 6 0 ∷ get_or rest 7 0 ∷ []

eights_next : (rest : List ℕ) → 8 ≤ length rest → eights_read rest ≡ one_more (hex_read (first_eight rest)) (eights_read (drop 8 rest))
unfolding eights_read
eights_next [] some = absurd (omega arith)
eights_next (a ∷ []) some = absurd (omega arith)
eights_next (a ∷ b ∷ []) some = absurd (omega arith)
eights_next (a ∷ b ∷ c ∷ []) some = absurd (omega arith)
eights_next (a ∷ b ∷ c ∷ d ∷ []) some = absurd (omega arith)
eights_next (a ∷ b ∷ c ∷ d ∷ e ∷ []) some = absurd (omega arith)
eights_next (a ∷ b ∷ c ∷ d ∷ e ∷ f ∷ []) some = absurd (omega arith)
eights_next (a ∷ b ∷ c ∷ d ∷ e ∷ f ∷ g ∷ []) some = absurd (omega arith)
eights_next (a ∷ b ∷ c ∷ d ∷ e ∷ f ∷ g ∷ h ∷ rest) some = refl

all_behind : (n : ℕ) (rest : List ℕ) → take (length rest - n) (drop n rest) ≡ drop n rest
all_behind n rest = ap (λ k. take k (drop n rest)) (sym (length-drop n rest)) ∙ take-length (drop n rest)

pub eights_step : (word xs rest : List ℕ) (x : ℕ) → 8 ≤ length rest → hex_read (first_eight rest) ≡ Ok x → eights_read word ≡ fronted (Ok xs) (eights_read rest) → eights_read word ≡ fronted (Ok (xs ++ x ∷ [])) (eights_read (take (length rest - 8) (drop 8 rest)))
eights_step word xs rest x some is h =
    group_step (eights_read word) (eights_read (drop 8 rest)) xs x (hex_read (first_eight rest)) is (h ∙ ap (fronted (Ok xs)) (eights_next rest some))
    ∙ ap (λ r. fronted (Ok (xs ++ x ∷ [])) (eights_read r)) (sym (all_behind 8 rest))

pub eights_bad : (word xs rest : List ℕ) (c : Cause) → 8 ≤ length rest → hex_read (first_eight rest) ≡ Err c → eights_read word ≡ fronted (Ok xs) (eights_read rest) → eights_read word ≡ Err c
eights_bad word xs rest c some is h = h ∙ ap (fronted (Ok xs)) (eights_next rest some) ∙ bad_group (eights_read (drop 8 rest)) xs (hex_read (first_eight rest)) c (eights_only (drop 8 rest)) (hex_only (first_eight rest)) is

pub eights_all : (word xs rest : List ℕ) → (length rest == 0) ≡ true → eights_read word ≡ fronted (Ok xs) (eights_read rest) → Ok xs ≡ eights_read word
unfolding eights_read
eights_all word xs [] none h = sym (h ∙ ap Ok (append-nil xs))
eights_all word xs (a ∷ rest) none h = absurd (grind (arith, nat_tests))

eights_short : (rest : List ℕ) → (length rest == 0) ≡ false → length rest < 8 → eights_read rest ≡ Err Number
unfolding eights_read
eights_short [] some few = absurd (grind (arith, nat_tests))
eights_short (a ∷ []) some few = refl
eights_short (a ∷ b ∷ []) some few = refl
eights_short (a ∷ b ∷ c ∷ []) some few = refl
eights_short (a ∷ b ∷ c ∷ d ∷ []) some few = refl
eights_short (a ∷ b ∷ c ∷ d ∷ e ∷ []) some few = refl
eights_short (a ∷ b ∷ c ∷ d ∷ e ∷ f ∷ []) some few = refl
eights_short (a ∷ b ∷ c ∷ d ∷ e ∷ f ∷ g ∷ []) some few = refl
eights_short (a ∷ b ∷ c ∷ d ∷ e ∷ f ∷ g ∷ h ∷ rest) some few = absurd (omega arith)

pub eights_odd : (word xs rest : List ℕ) → (length rest == 0) ≡ false → length rest < 8 → eights_read word ≡ fronted (Ok xs) (eights_read rest) → Err Number ≡ eights_read word
eights_odd word xs rest some few h = sym (h ∙ ap (fronted (Ok xs)) (eights_short rest some few))

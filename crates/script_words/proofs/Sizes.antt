-- The size of a screen.
use Rattle.std.proofs.Common.{◌≡◌, ℕ, ◌≤◌, List, Bool, true, false, ◌&&◌, cond, nat_le, Result, Ok, Err, refl, ap, sym, ◌∙◌, subst, arith}
use Rattle.std.proofs.lemmas.Bool.Decides.{nat_tests}
use Rattle.std.specs.Prelude.{Option, None, Some, SomeIff, ok_or}
use Rattle.qws_base.specs.Sides.{Sides, IsScreen}
use Rattle.script_grammar.specs.Spelling.{number_read, in_range, width_read, height_read}
use Rattle.script_grammar.specs.Judging.{◌>>=◌}
use Rattle.script_grammar.specs.Words.{size_read}
use Rattle.script_grammar.specs.declared.lines.Cause.{Cause}
use Rattle.script_grammar.specs.declared.lines.Cause.TheVariants.{Range}
use Rattle.script_words.specs.Judged.{joined}
use Rattle.script_words.proofs.Joins.{ok_same, no_ok, joined_ok, two_ok, two_err}

in_by : (inside : Bool) (low high m n : ℕ) → (nat_le low m && nat_le m high) ≡ inside → ◌≡◌ {A = Result ℕ Cause} (cond inside (Ok m) (Err Range)) (Ok n) → (low ≤ n) × (n ≤ high)
in_by false low high m n h e = no_ok Range n e
in_by true low high m n h e = subst (λ k. (low ≤ k) × (k ≤ high)) (ok_same m n e) (grind (arith, nat_tests), grind (arith, nat_tests))

bind_in : (r : Result ℕ Cause) (low high n : ℕ) → (r >>= in_range low high) ≡ Ok n → (low ≤ n) × (n ≤ high)
bind_in (Err c) low high n e = no_ok c n e
bind_in (Ok m) low high n e = in_by (nat_le low m && nat_le m high) low high m n refl e

width_in : (word : List ℕ) (n : ℕ) → width_read word ≡ Ok n → (1 ≤ n) × (n ≤ 640)
unfolding width_read
width_in word n e = bind_in (number_read word) 1 640 n e

height_in : (word : List ℕ) (n : ℕ) → height_read word ≡ Ok n → (1 ≤ n) × (n ≤ 480)
unfolding height_read
height_in word n e = bind_in (number_read word) 1 480 n e

made : (size : Sides) (o : Option Sides) → IsScreen size → SomeIff o (IsScreen size) size → ok_or o Range ≡ Ok size
made size None inside none = absurd (none inside)
made size (Some other) inside some = ap Ok some.1

pub size_made : (w h : List ℕ) (size : Sides) (o : Option Sides) → joined (width_read w) (height_read h) ≡ Ok (size.w, size.h) → SomeIff o (IsScreen size) size → ok_or o Range ≡ size_read w h
unfolding size_read
size_made w h size o read new =
    let parts = joined_ok (width_read w) (height_read h) (size.w, size.h) read in
    let wide = width_in w size.w parts.0 in
    let high = height_in h size.h parts.1 in
    made size o (record { some_w = wide.0; most_w = wide.1; some_h = high.0; most_h = high.1 }) new
    ∙ sym (two_ok (λ w h. let s : Sides = record { w = w; h = h } in s) (width_read w) (height_read h) (size.w, size.h) read)

pub size_bad : (w h : List ℕ) (cause : Cause) → joined (width_read w) (height_read h) ≡ Err cause → Err cause ≡ size_read w h
unfolding size_read
size_bad w h cause read = sym (two_err (λ w h. let s : Sides = record { w = w; h = h } in s) (width_read w) (height_read h) cause read)

-- The inks of one colour and no more.
use Rattle.std.proofs.Common.{◌≡◌, ℕ, ◌-◌, ◌≤◌, List, [], ◌∷◌, length, map, take, drop, get_or, Bool, true, false, Result, Err, ap, sym, ◌∙◌, arith}
use Rattle.std.specs.Prelude.{Option, None, Some, if◌then◌else◌}
use lib.Chars.{codes}
use Rattle.std.specs.Str.{bytes_eq}
use Rattle.std.specs.Borrow.{Bor}
use Rattle.std.proofs.Math.Seq.{take-length}
use Rattle.qws_base.specs.declared.inks.Ink.{Ink}
use Rattle.qws_base.specs.declared.inks.Ink.TheVariants.{Copy, Xor, And, Or}
use Rattle.script_grammar.specs.Words.{coloured, blended, ink_then}
use Rattle.script_grammar.specs.declared.lines.Cause.{Cause}
use Rattle.script_grammar.specs.declared.lines.Cause.TheVariants.{Form}
use Rattle.script_words.specs.Inks.{plain_of, plain_ink}
use Rattle.script_words.specs.declared.inks.Plain.{Plain}
use Rattle.script_words.specs.declared.inks.Plain.TheVariants.{Copied, Xored, Anded, Ored}
use Rattle.script_words.proofs.Readings.{no_word}

some_same : (one two : Plain) → ◌≡◌ {A = Option Plain} (Some one) (Some two) → one ≡ two
some_same one two e = cc

by_tests : (a b c d e : Bool) (kind : Plain) (words : List (List ℕ)) → ◌≡◌ {A = Option Plain} (if a then Some Copied else if b then Some Xored else if c then Some Anded else if d then Some Ored else None) (Some kind) → ◌≡◌ {A = Result Ink Cause × List (List ℕ)} (if a then coloured Copy words else if b then coloured Xor words else if c then coloured And words else if d then coloured Or words else if e then blended words else (Err Form, words)) (coloured (plain_ink kind) words)
by_tests true b c d e kind words h = ap (λ (k : Plain). coloured (plain_ink k) words) (some_same Copied kind h)
by_tests false true c d e kind words h = ap (λ (k : Plain). coloured (plain_ink k) words) (some_same Xored kind h)
by_tests false false true d e kind words h = ap (λ (k : Plain). coloured (plain_ink k) words) (some_same Anded kind h)
by_tests false false false true e kind words h = ap (λ (k : Plain). coloured (plain_ink k) words) (some_same Ored kind h)
by_tests false false false false e kind words h = absurd (let k : ⊥ = cc in k)

plain_first : (word : List ℕ) (words : List (List ℕ)) (kind : Plain) → plain_of word ≡ Some kind → ink_then (word ∷ words) ≡ coloured (plain_ink kind) words
unfolding ink_then
plain_first word words kind h = by_tests (bytes_eq word (codes "copy")) (bytes_eq word (codes "xor")) (bytes_eq word (codes "and")) (bytes_eq word (codes "or")) (bytes_eq word (codes "blend")) kind words h

pub ink_first : (words : List (Bor (List ℕ))) (kind : Plain) → 1 ≤ length words → plain_of (get_or words 0 no_word).now ≡ Some kind → (ink_then (map (λ w. w.now) words)).0 ≡ (coloured (plain_ink kind) (map (λ w. w.now) (take (length words - 1) (drop 1 words)))).0
ink_first [] kind some h = absurd (omega arith)
ink_first (w ∷ words) kind some h =
    let same : take (length (w ∷ words) - 1) (drop 1 (w ∷ words)) ≡ words = ap (λ k. take k words) (let e : length (w ∷ words) - 1 ≡ length words = omega arith in e) ∙ take-length words in
    ap (λ (v : Result Ink Cause × List (List ℕ)). v.0) (plain_first w.now (map (λ w. w.now) words) kind h)
    ∙ ap (λ (rest : List (Bor (List ℕ))). (coloured (plain_ink kind) (map (λ w. w.now) rest)).0) (sym same)

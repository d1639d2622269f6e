-- A glyph of judged words, where its rows were judged beside its width.
use Rattle.std.proofs.Common.{◌≡◌, Result, Ok, Err, refl, ap, sym, ◌∙◌}
use Rattle.script_grammar.specs.Judging.{◌⊛◌}
use Rattle.script_grammar.specs.declared.lines.Cause.{Cause}
use Rattle.script_words.specs.Judged.{joined, joined3}
use Rattle.script_words.proofs.Fronts.{first_assoc}
use Rattle.script_words.proofs.Joins.{ok_same, three_err}

regrouped : {A B C D : Type 0} (f : A → B → C → D) (a : Result A Cause) (b : Result B Cause) (r : Result C Cause) → (Ok f ⊛ a ⊛ b ⊛ r) ≡ (Ok (λ x v. f x v.0 v.1) ⊛ a ⊛ joined b r)
regrouped f (Ok x) (Ok y) (Ok z) = refl
regrouped f (Ok x) (Ok y) (Err e) = refl
regrouped f (Ok x) (Err d) (Ok z) = refl
regrouped f (Ok x) (Err d) (Err e) = refl
regrouped f (Err c) (Ok y) (Ok z) = refl
regrouped f (Err c) (Ok y) (Err e) = refl
regrouped f (Err c) (Err d) (Ok z) = refl
regrouped f (Err c) (Err d) (Err e) = ap Err (first_assoc c d e)

no_pair : {B C D : Type 0} (y : B) (z : C) (c : Cause) → joined (Ok y) (Ok z) ≡ joined (let b : Result B Cause = Ok y in b) (let r : Result C Cause = Err c in r) → D
no_pair y z c e = absurd (let h : ⊥ = cc in h)

same_of : {B C : Type 0} (y : B) (z : C) (other : Result C Cause) → joined (Ok y) (Ok z) ≡ joined (Ok y) other → other ≡ Ok z
same_of {B} {C} y z (Ok w) e = ap (λ (v : B × C). Ok v.1) (sym (ok_same (y, z) (y, w) e))
same_of y z (Err c) e = no_pair y z c e

pub beside_ok : {A B C D : Type 0} (f : A → B → C → D) (a : Result A Cause) (b : Result B Cause) (read other : Result C Cause) (x : A) (y : B) (z : C) → a ≡ Ok x → b ≡ Ok y → read ≡ Ok z → joined b read ≡ joined b other → (Ok f ⊛ a ⊛ b ⊛ other) ≡ Ok (f x y z)
beside_ok f a b read other x y z p q r same =
    let found = same_of y z other ((λ i. joined (sym q i) (sym r i)) ∙ same ∙ (λ i. joined (q i) other)) in
    λ i. Ok f ⊛ p i ⊛ q i ⊛ found i

pub beside_err : {A B C D : Type 0} (f : A → B → C → D) (a : Result A Cause) (b : Result B Cause) (read other : Result C Cause) (cause : Cause) → joined3 a b read ≡ Err cause → joined b read ≡ joined b other → (Ok f ⊛ a ⊛ b ⊛ other) ≡ Err cause
beside_err {A} {B} {C} f a b read other cause e same =
    regrouped f a b other
    ∙ ap (λ (v : Result (B × C) Cause). (Ok (λ x v. f x v.0 v.1) ⊛ a ⊛ v)) (sym same)
    ∙ sym (regrouped f a b read)
    ∙ three_err f a b read cause e

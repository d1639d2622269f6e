-- What judged words make.
use Rattle.std.proofs.Common.{◌≡◌, ℕ, Result, Ok, Err, refl, ap, sym, ◌∙◌}
use Rattle.script_grammar.specs.Judging.{◌⊛◌}
use Rattle.script_grammar.specs.declared.lines.Cause.{Cause}
use Rattle.script_grammar.proofs.Binds.{err_is_no_ok}

applied_is : {A B : Type 0} (g : Result (A → B) Cause) (a : Result A Cause) (f : A → B) (x : A) → g ≡ Ok f → a ≡ Ok x → (g ⊛ a) ≡ Ok (f x)
applied_is {A} {B} g a f x h p = ap (λ (o : Result (A → B) Cause). o ⊛ a) h ∙ ap (λ (o : Result A Cause). Ok f ⊛ o) p

pub made1_is : {A B : Type 0} (f : A → B) (a : Result A Cause) (x : A) → a ≡ Ok x → (Ok f ⊛ a) ≡ Ok (f x)
made1_is f a x p = applied_is (Ok f) a f x refl p

pub made2_is : {A B C : Type 0} (f : A → B → C) (a : Result A Cause) (b : Result B Cause) (x : A) (y : B) → a ≡ Ok x → b ≡ Ok y → (Ok f ⊛ a ⊛ b) ≡ Ok (f x y)
made2_is f a b x y p q = applied_is (Ok f ⊛ a) b (f x) y (made1_is f a x p) q

pub made3_is : {A B C D : Type 0} (f : A → B → C → D) (a : Result A Cause) (b : Result B Cause) (c : Result C Cause) (x : A) (y : B) (z : C) → a ≡ Ok x → b ≡ Ok y → c ≡ Ok z → (Ok f ⊛ a ⊛ b ⊛ c) ≡ Ok (f x y z)
made3_is f a b c x y z p q r = applied_is (Ok f ⊛ a ⊛ b) c (f x y) z (made2_is f a b x y p q) r

pub made4_is : {A B C D E : Type 0} (f : A → B → C → D → E) (a : Result A Cause) (b : Result B Cause) (c : Result C Cause) (d : Result D Cause) (x : A) (y : B) (z : C) (w : D) → a ≡ Ok x → b ≡ Ok y → c ≡ Ok z → d ≡ Ok w → (Ok f ⊛ a ⊛ b ⊛ c ⊛ d) ≡ Ok (f x y z w)
made4_is f a b c d x y z w p q r s = applied_is (Ok f ⊛ a ⊛ b ⊛ c) d (f x y z) w (made3_is f a b c x y z p q r) s

-- ---- and what they are made of

ok_is : {A : Type 0} (x y : A) → ◌≡◌ {A = Result A Cause} (Ok x) (Ok y) → x ≡ y
ok_is x y e = cc

applied_ok : {A B : Type 0} (g : Result (A → B) Cause) (a : Result A Cause) (y : B) → (g ⊛ a) ≡ Ok y → (f : A → B) × (x : A) × (g ≡ Ok f) × (a ≡ Ok x) × (f x ≡ y)
applied_ok (Ok f) (Ok x) y e = (f, x, refl, refl, ok_is (f x) y e)
applied_ok (Ok f) (Err d) y e = err_is_no_ok d y e
applied_ok (Err c) (Ok x) y e = err_is_no_ok c y e
applied_ok (Err c) (Err d) y e = err_is_no_ok _ y e

pub made1_ok : {A B : Type 0} (f : A → B) (a : Result A Cause) (v : B) → (Ok f ⊛ a) ≡ Ok v → (x : A) × (a ≡ Ok x) × (f x ≡ v)
made1_ok {A} {B} f a v e =
    let last = applied_ok (Ok f) a v e in
    (last.1, last.3, ap (λ (g : A → B). g last.1) (ok_is f last.0 last.2) ∙ last.4)

pub made2_ok : {A B C : Type 0} (f : A → B → C) (a : Result A Cause) (b : Result B Cause) (v : C) → (Ok f ⊛ a ⊛ b) ≡ Ok v → (x : A) × (y : B) × (a ≡ Ok x) × (b ≡ Ok y) × (f x y ≡ v)
made2_ok {A} {B} {C} f a b v e =
    let last = applied_ok (Ok f ⊛ a) b v e in
    let first = made1_ok f a last.0 last.2 in
    (first.0, last.1, first.1, last.3, ap (λ (g : B → C). g last.1) first.2 ∙ last.4)

pub made3_ok : {A B C D : Type 0} (f : A → B → C → D) (a : Result A Cause) (b : Result B Cause) (c : Result C Cause) (v : D) → (Ok f ⊛ a ⊛ b ⊛ c) ≡ Ok v → (x : A) × (y : B) × (z : C) × (a ≡ Ok x) × (b ≡ Ok y) × (c ≡ Ok z) × (f x y z ≡ v)
made3_ok {A} {B} {C} {D} f a b c v e =
    let last = applied_ok (Ok f ⊛ a ⊛ b) c v e in
    let first = made2_ok f a b last.0 last.2 in
    (first.0, first.1, last.1, first.2, first.3, last.3, ap (λ (g : C → D). g last.1) first.4 ∙ last.4)

pub made4_ok : {A B C D E : Type 0} (f : A → B → C → D → E) (a : Result A Cause) (b : Result B Cause) (c : Result C Cause) (d : Result D Cause) (v : E) → (Ok f ⊛ a ⊛ b ⊛ c ⊛ d) ≡ Ok v → (x : A) × (y : B) × (z : C) × (w : D) × (a ≡ Ok x) × (b ≡ Ok y) × (c ≡ Ok z) × (d ≡ Ok w) × (f x y z w ≡ v)
made4_ok {A} {B} {C} {D} {E} f a b c d v e =
    let last = applied_ok (Ok f ⊛ a ⊛ b ⊛ c) d v e in
    let first = made3_ok f a b c last.0 last.2 in
    (first.0, first.1, first.2, last.1, first.3, first.4, first.5, last.3, ap (λ (g : D → E). g last.1) first.6 ∙ last.4)

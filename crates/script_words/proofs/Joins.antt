-- What several judged words make, where these were judged in pairs.
use Rattle.std.proofs.Common.{◌≡◌, Result, Ok, Err, refl, ap, sym, ◌∙◌}
use Rattle.script_grammar.specs.Judging.{first_cause, ◌⊛◌}
use Rattle.script_grammar.specs.declared.lines.Cause.{Cause}
use Rattle.script_words.specs.Judged.{joined, joined3, joined4}

pub ok_same : {A : Type 0} (x y : A) → ◌≡◌ {A = Result A Cause} (Ok x) (Ok y) → x ≡ y
ok_same x y e = cc

err_same : {A : Type 0} (c d : Cause) → ◌≡◌ {A = Result A Cause} (Err c) (Err d) → c ≡ d
err_same c d e = cc

pub no_ok : {A B : Type 0} (c : Cause) (x : A) → ◌≡◌ {A = Result A Cause} (Err c) (Ok x) → B
no_ok c x e = absurd (let h : ⊥ = cc in h)

no_err : {A B : Type 0} (c : Cause) (x : A) → ◌≡◌ {A = Result A Cause} (Ok x) (Err c) → B
no_err c x e = absurd (let h : ⊥ = cc in h)

pub joined_ok : {A B : Type 0} (a : Result A Cause) (b : Result B Cause) (v : A × B) → joined a b ≡ Ok v → (a ≡ Ok v.0) × (b ≡ Ok v.1)
joined_ok {A} {B} (Ok x) (Ok y) v e = let same = ok_same (x, y) v e in (ap (λ (w : A × B). Ok w.0) same, ap (λ (w : A × B). Ok w.1) same)
joined_ok (Ok x) (Err d) v e = no_ok d v e
joined_ok (Err c) (Ok y) v e = no_ok c v e
joined_ok (Err c) (Err d) v e = no_ok (first_cause c d) v e

pub two_ok : {A B C : Type 0} (f : A → B → C) (a : Result A Cause) (b : Result B Cause) (v : A × B) → joined a b ≡ Ok v → (Ok f ⊛ a ⊛ b) ≡ Ok (f v.0 v.1)
two_ok {A} {B} f (Ok x) (Ok y) v e = ap (λ (w : A × B). Ok (f w.0 w.1)) (ok_same (x, y) v e)
two_ok f (Ok x) (Err d) v e = no_ok d v e
two_ok f (Err c) (Ok y) v e = no_ok c v e
two_ok f (Err c) (Err d) v e = no_ok (first_cause c d) v e

pub two_err : {A B C : Type 0} (f : A → B → C) (a : Result A Cause) (b : Result B Cause) (cause : Cause) → joined a b ≡ Err cause → (Ok f ⊛ a ⊛ b) ≡ Err cause
two_err f (Ok x) (Ok y) cause e = no_err cause (x, y) e
two_err f (Ok x) (Err d) cause e = ap Err (err_same d cause e)
two_err f (Err c) (Ok y) cause e = ap Err (err_same c cause e)
two_err f (Err c) (Err d) cause e = ap Err (err_same (first_cause c d) cause e)

-- the first two as a pair
pub paired : {A B C : Type 0} (f : A → B → C) (a : Result A Cause) (b : Result B Cause) → (Ok f ⊛ a ⊛ b) ≡ (Ok (λ v. f v.0 v.1) ⊛ joined a b)
paired f (Ok x) (Ok y) = refl
paired f (Ok x) (Err d) = refl
paired f (Err c) (Ok y) = refl
paired f (Err c) (Err d) = refl

-- what makes one thing of judged words makes any other of them
pub two_any : {A B C D : Type 0} (f : A → B → C) (g : A → B → D) (a : Result A Cause) (b : Result B Cause) (cause : Cause) → (Ok f ⊛ a ⊛ b) ≡ Err cause → (Ok g ⊛ a ⊛ b) ≡ Err cause
two_any f g (Ok x) (Ok y) cause e = no_err cause (f x y) e
two_any f g (Ok x) (Err d) cause e = ap Err (err_same d cause e)
two_any f g (Err c) (Ok y) cause e = ap Err (err_same c cause e)
two_any f g (Err c) (Err d) cause e = ap Err (err_same (first_cause c d) cause e)

three_pair : {A B C D : Type 0} (f : A → B → C → D) (a : Result A Cause) (b : Result B Cause) (c : Result C Cause) → (Ok f ⊛ a ⊛ b ⊛ c) ≡ (Ok (λ v z. f v.0 v.1 z) ⊛ joined a b ⊛ c)
three_pair {A} {B} {C} {D} f a b c = ap (λ (h : Result (C → D) Cause). h ⊛ c) (paired f a b)

pub three_any : {A B C D E : Type 0} (f : A → B → C → D) (g : A → B → C → E) (a : Result A Cause) (b : Result B Cause) (c : Result C Cause) (cause : Cause) → (Ok f ⊛ a ⊛ b ⊛ c) ≡ Err cause → (Ok g ⊛ a ⊛ b ⊛ c) ≡ Err cause
three_any {A} {B} f g a b c cause e = three_pair g a b c ∙ two_any (λ (v : A × B) z. f v.0 v.1 z) (λ (v : A × B) z. g v.0 v.1 z) (joined a b) c cause (sym (three_pair f a b c) ∙ e)

four_pair : {A B C D E : Type 0} (f : A → B → C → D → E) (a : Result A Cause) (b : Result B Cause) (c : Result C Cause) (d : Result D Cause) → (Ok f ⊛ a ⊛ b ⊛ c ⊛ d) ≡ (Ok (λ v z w. f v.0 v.1 z w) ⊛ joined a b ⊛ c ⊛ d)
four_pair {A} {B} {C} {D} {E} f a b c d = ap (λ (h : Result (C → D → E) Cause). h ⊛ c ⊛ d) (paired f a b)

pub four_any : {A B C D E F : Type 0} (f : A → B → C → D → E) (g : A → B → C → D → F) (a : Result A Cause) (b : Result B Cause) (c : Result C Cause) (d : Result D Cause) (cause : Cause) → (Ok f ⊛ a ⊛ b ⊛ c ⊛ d) ≡ Err cause → (Ok g ⊛ a ⊛ b ⊛ c ⊛ d) ≡ Err cause
four_any {A} {B} f g a b c d cause e = four_pair g a b c d ∙ three_any (λ (v : A × B) z w. f v.0 v.1 z w) (λ (v : A × B) z w. g v.0 v.1 z w) (joined a b) c d cause (sym (four_pair f a b c d) ∙ e)

pub three_err : {A B C D : Type 0} (f : A → B → C → D) (a : Result A Cause) (b : Result B Cause) (c : Result C Cause) (cause : Cause) → joined3 a b c ≡ Err cause → (Ok f ⊛ a ⊛ b ⊛ c) ≡ Err cause
three_err f a b c cause e = three_any (λ x y z. (x, y, z)) f a b c cause e

pub four_err : {A B C D E : Type 0} (f : A → B → C → D → E) (a : Result A Cause) (b : Result B Cause) (c : Result C Cause) (d : Result D Cause) (cause : Cause) → joined4 a b c d ≡ Err cause → (Ok f ⊛ a ⊛ b ⊛ c ⊛ d) ≡ Err cause
four_err f a b c d cause e = four_any (λ x y z w. (x, y, z, w)) f a b c d cause e

-- ---- three and four by pairs

pub pair_then_err : {A B C D : Type 0} (f : A → B → C → D) (a : Result A Cause) (b : Result B Cause) (c : Result C Cause) (cause : Cause) → joined (joined a b) c ≡ Err cause → (Ok f ⊛ a ⊛ b ⊛ c) ≡ Err cause
pair_then_err {A} {B} f a b c cause e = three_pair f a b c ∙ two_err (λ (v : A × B) z. f v.0 v.1 z) (joined a b) c cause e

two_one : {A B C : Type 0} (f : A → B) (g : A → C) (d : Result A Cause) (cause : Cause) → (Ok g ⊛ d) ≡ Err cause → (Ok f ⊛ d) ≡ Err cause
two_one f g (Ok x) cause e = no_err cause (g x) e
two_one f g (Err c) cause e = ap Err (err_same c cause e)

bad_one : {A B C : Type 0} (c : Cause) (d : Result A Cause) (cause : Cause) → ((let g : Result (A → B) Cause = Err c in g) ⊛ d) ≡ Err cause → ((let f : Result (A → C) Cause = Err c in f) ⊛ d) ≡ Err cause
bad_one c (Ok x) cause e = ap Err (err_same c cause e)
bad_one c (Err d) cause e = ap Err (err_same (first_cause c d) cause e)

pub triple_then_err : {A B C D : Type 0} (a : Result A Cause) (b : Result B Cause) (c : Result C Cause) (d : Result D Cause) (cause : Cause) → joined (joined3 a b c) d ≡ Err cause → joined4 a b c d ≡ Err cause
triple_then_err {A} {B} {C} {D} (Ok x) (Ok y) (Ok z) d cause e = two_one (λ w. (x, y, z, w)) (λ w. ((x, y, z), w)) d cause e
triple_then_err {A} {B} {C} {D} (Ok x) (Ok y) (Err r) d cause e = bad_one r d cause e
triple_then_err {A} {B} {C} {D} (Ok x) (Err q) (Ok z) d cause e = bad_one q d cause e
triple_then_err {A} {B} {C} {D} (Ok x) (Err q) (Err r) d cause e = bad_one (first_cause q r) d cause e
triple_then_err {A} {B} {C} {D} (Err p) (Ok y) (Ok z) d cause e = bad_one p d cause e
triple_then_err {A} {B} {C} {D} (Err p) (Ok y) (Err r) d cause e = bad_one (first_cause p r) d cause e
triple_then_err {A} {B} {C} {D} (Err p) (Err q) (Ok z) d cause e = bad_one (first_cause p q) d cause e
triple_then_err {A} {B} {C} {D} (Err p) (Err q) (Err r) d cause e = bad_one (first_cause (first_cause p q) r) d cause e

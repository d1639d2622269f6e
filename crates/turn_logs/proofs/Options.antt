-- Options.
use Rattle.std.proofs.Common.{◌≡◌, is_none, sym, ap, Option, Some, None}
use Rattle.std.proofs.lemmas.Bool.{false≢true}

abbrev the : {A : Type 0} → A → Option A → A
the d (Some x) = x
the d None = d

pub some_is : {A : Type 0} (x y : A) → Some x ≡ Some y → x ≡ y
some_is x y e = ap (the x) e

no_some : {A : Type 0} (x : A) → (let n : Option A = None in n) ≡ Some x → ⊥
no_some x e = false≢true (sym (ap is_none e))

pub none_some : {A : Type 0} {B : Type 0} (x : A) → (let n : Option A = None in n) ≡ Some x → B
none_some x e = absurd (no_some x e)

pub same_some : {A : Type 0} (x y : A) → Some x ≡ Some y → x ≡ y
same_some x y e = some_is x y e

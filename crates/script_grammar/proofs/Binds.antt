-- What an Ok comes from.
use Rattle.std.proofs.Common.{◌≡◌, Bool, true, false, cond, Result, Ok, Err, refl}
use Rattle.script_grammar.specs.Judging.{◌>>=◌}
use Rattle.script_grammar.specs.declared.lines.Cause.{Cause}

pub err_is_no_ok : {A B : Type 0} (c : Cause) (x : A) → ◌≡◌ {A = Result A Cause} (Err c) (Ok x) → B
err_is_no_ok c x e = absurd (let h : ⊥ = cc in h)

pub bind_ok : {A B : Type 0} (r : Result A Cause) (f : A → Result B Cause) (y : B) → (r >>= f) ≡ Ok y → (x : A) × (r ≡ Ok x) × (f x ≡ Ok y)
bind_ok (Ok x) f y e = (x, refl, e)
bind_ok (Err c) f y e = err_is_no_ok c y e

pub cond_ok : {A : Type 0} (b : Bool) (r : Result A Cause) (c : Cause) (y : A) → cond b r (Err c) ≡ Ok y → (b ≡ true) × (r ≡ Ok y)
cond_ok true r c y e = (refl, e)
cond_ok false r c y e = err_is_no_ok c y e

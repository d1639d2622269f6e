-- Laws of tests that std's pages on Booleans don't have.
use Rattle.std.proofs.Common.{◌≡◌, Bool, true, false, not, ◌&&◌, ◌||◌, refl, sym, ap}
use mathlib.Core.Bool.{beq}

-- two tests that pass together
pub same_test : (a b : Bool) → (a ≡ true → b ≡ true) → (b ≡ true → a ≡ true) → a ≡ b
same_test true b f g = sym (f refl)
same_test false true f g = g refl
same_test false false f g = refl

-- two tests that both fail
pub both_off : (a b : Bool) → (a ≡ true → ⊥) → (b ≡ true → ⊥) → a ≡ b
both_off a b f g = same_test a b (λ h. absurd (f h)) (λ h. absurd (g h))

-- a test that fails where it passes never passes
pub never : (a : Bool) → (a ≡ true → a ≡ false) → a ≡ false
never true f = f refl
never false f = refl

-- both tests, where each is another's answer
pub both_are : (a b c d : Bool) → a ≡ c → b ≡ d → (a && b) ≡ (c && d)
both_are a b c d h k = let e = ap (λ v. v && b) h in let f = ap (λ v. c && v) k in cc

pub and_true : (b : Bool) → (b && true) ≡ b
and_true true = refl
and_true false = refl

pub and_false : (b : Bool) → (b && false) ≡ false
and_false true = refl
and_false false = refl

pub or_false : (b : Bool) → (b || false) ≡ b
or_false true = refl
or_false false = refl

pub and_comm : (a b : Bool) → (a && b) ≡ (b && a)
and_comm true true = refl
and_comm true false = refl
and_comm false true = refl
and_comm false false = refl

pub or_assoc : (a b c : Bool) → (a || (b || c)) ≡ ((a || b) || c)
or_assoc true b c = refl
or_assoc false b c = refl

pub not_twice : (b : Bool) → not (not b) ≡ b
not_twice true = refl
not_twice false = refl

-- ---- equal tests

pub equal_from : (a b : Bool) → beq a b ≡ true → a ≡ b
equal_from true true h = refl
equal_from true false h = cc
equal_from false true h = cc
equal_from false false h = refl

pub equal_itself : (b : Bool) → beq b b ≡ true
equal_itself true = refl
equal_itself false = refl

pub equal_to : (a b : Bool) → a ≡ b → beq a b ≡ true
equal_to a b h = let e = ap (beq a) h in let f = equal_itself a in cc

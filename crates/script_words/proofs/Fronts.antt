-- The first of three causes, and values in front of others.
use Rattle.std.proofs.Common.{◌≡◌, List, [], ◌∷◌, Bool, true, false, nat_le, cond, Result, Ok, Err, refl, ap, arith, append_assoc}
use Rattle.std.proofs.lemmas.Bool.Decides.{nat_tests}
use Rattle.script_grammar.specs.Judging.{rank, first_cause, ◌⊛◌}
use Rattle.script_grammar.specs.declared.lines.Cause.{Cause}
use Rattle.script_words.specs.Judged.{pushed, fronted}

first_by : (c d e : Cause) (p q : Bool) → nat_le (rank c) (rank d) ≡ p → nat_le (rank d) (rank e) ≡ q → first_cause (cond p c d) e ≡ first_cause c (cond q d e)
first_by c d e true true h k = rw (h, let both : nat_le (rank c) (rank e) ≡ true = grind (arith, nat_tests) in both) refl
first_by c d e true false h k = refl
first_by c d e false true h k = rw (h, k) refl
first_by c d e false false h k = rw (k, let both : nat_le (rank c) (rank e) ≡ false = grind (arith, nat_tests) in both) refl

pub first_assoc : (c d e : Cause) → first_cause (first_cause c d) e ≡ first_cause c (first_cause d e)
first_assoc c d e = first_by c d e (nat_le (rank c) (rank d)) (nat_le (rank d) (rank e)) refl refl

-- one more value behind those in front is one more in front of the rest
pub fronted_push : {A : Type 0} (all : Result (List A) Cause) (x : Result A Cause) (rest : Result (List A) Cause) → fronted (pushed all x) rest ≡ fronted all (Ok (λ y ys. y ∷ ys) ⊛ x ⊛ rest)
fronted_push (Ok xs) (Ok x) (Ok ys) = ap Ok (append_assoc xs (x ∷ []) ys)
fronted_push (Ok xs) (Ok x) (Err e) = refl
fronted_push (Ok xs) (Err d) (Ok ys) = refl
fronted_push (Ok xs) (Err d) (Err e) = refl
fronted_push (Err c) (Ok x) (Ok ys) = refl
fronted_push (Err c) (Ok x) (Err e) = refl
fronted_push (Err c) (Err d) (Ok ys) = refl
fronted_push (Err c) (Err d) (Err e) = ap Err (first_assoc c d e)

pub fronted_none : {A : Type 0} (rest : Result (List A) Cause) → fronted (Ok []) rest ≡ rest
fronted_none (Ok ys) = refl
fronted_none (Err c) = refl

-- Judged words in pairs and in lists.
use Rattle.std.specs.Prelude.{List, [], ◌∷◌, ◌++◌, Result, Ok, Err}
use Rattle.script_grammar.specs.Judging.{◌⊛◌}
use Rattle.script_grammar.specs.declared.lines.Cause.{Cause}

-- both values, or the first cause of the two
abbrev pub joined : {A B : Type 0} → Result A Cause → Result B Cause → Result (A × B) Cause
joined a b = Ok (λ x y. (x, y)) ⊛ a ⊛ b

abbrev pub joined3 : {A B C : Type 0} → Result A Cause → Result B Cause → Result C Cause → Result (A × B × C) Cause
joined3 a b c = Ok (λ x y z. (x, y, z)) ⊛ a ⊛ b ⊛ c

abbrev pub joined4 : {A B C D : Type 0} → Result A Cause → Result B Cause → Result C Cause → Result D Cause → Result (A × B × C × D) Cause
joined4 a b c d = Ok (λ x y z w. (x, y, z, w)) ⊛ a ⊛ b ⊛ c ⊛ d

-- one more value behind others, or the first cause of all
abbrev pub pushed : {A : Type 0} → Result (List A) Cause → Result A Cause → Result (List A) Cause
pushed all more = Ok (λ xs x. xs ++ x ∷ []) ⊛ all ⊛ more

-- values in front of others, or the first cause of all
abbrev pub fronted : {A : Type 0} → Result (List A) Cause → Result (List A) Cause → Result (List A) Cause
fronted front rest = Ok (λ xs ys. xs ++ ys) ⊛ front ⊛ rest

-- what a value is seen as
abbrev pub seen : {X Y : Type 0} → (X → Y) → Result X Cause → Result Y Cause
seen view (Ok x) = Ok (view x)
seen view (Err c) = Err c

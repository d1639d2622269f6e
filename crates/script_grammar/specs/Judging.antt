-- How a line is judged: why it is bad, and that the first cause of a line is the one of least rank, whichever word it is of.
use Rattle.std.specs.Prelude.{ℕ, nat_eq, nat_le, List, [], ◌∷◌, length, Result, Ok, Err, if◌then◌else◌}
use Rattle.script_grammar.specs.declared.lines.Cause.{Cause}
use Rattle.script_grammar.specs.declared.lines.Cause.TheVariants.{Form, Number, Range, Unknown, Repeated, Missing, Many, End}

-- the place of a cause in their order
abbrev pub rank : Cause → ℕ
rank Form = 1
rank Number = 2
rank Range = 3
rank Unknown = 4
rank Repeated = 5
rank Missing = 6
rank Many = 7
rank End = 8

abbrev pub first_cause : Cause → Cause → Cause
first_cause c d = if nat_le (rank c) (rank d) then c else d

-- what a function makes of a value, or the value's cause
infixl 10 ◌>>=◌
abbrev pub ◌>>=◌ : {A B : Type 0} → Result A Cause → (A → Result B Cause) → Result B Cause
(Ok x) >>= f = f x
(Err c) >>= f = Err c

-- a thing made of judged words: all of these, or the first cause among theirs
infixl 12 ◌⊛◌
abbrev pub ◌⊛◌ : {A B : Type 0} → Result (A → B) Cause → Result A Cause → Result B Cause
(Ok f) ⊛ (Ok x) = Ok (f x)
(Ok f) ⊛ (Err d) = Err d
(Err c) ⊛ (Ok x) = Err c
(Err c) ⊛ (Err d) = Err (first_cause c d)

-- each word of a list
abbrev pub each_of : {A B : Type 0} → (A → Result B Cause) → List A → Result (List B) Cause
each_of judge [] = Ok []
each_of judge (x ∷ xs) = Ok (λ y ys. y ∷ ys) ⊛ judge x ⊛ each_of judge xs

-- one form or another: where a line isn't of the first, it is judged by the second
infixr 8 ◌or_else◌
abbrev pub ◌or_else◌ : {A : Type 0} → Result A Cause → Result A Cause → Result A Cause
(Ok x) or_else r = Ok x
(Err Form) or_else r = r
(Err Number) or_else r = Err Number
(Err Range) or_else r = Err Range
(Err Unknown) or_else r = Err Unknown
(Err Repeated) or_else r = Err Repeated
(Err Missing) or_else r = Err Missing
(Err Many) or_else r = Err Many
(Err End) or_else r = Err End

-- at most so many
abbrev pub at_most : {A : Type 0} → ℕ → List A → Result (List A) Cause
at_most most xs = if nat_le (length xs) most then Ok xs else Err Range

abbrev pub as_many : {A : Type 0} → ℕ → List A → Result (List A) Cause
as_many count xs = if nat_eq (length xs) count then Ok xs else Err Range

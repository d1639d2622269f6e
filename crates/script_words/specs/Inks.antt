-- The inks of one colour, by their kind.
use Rattle.std.specs.Prelude.{ℕ, List, Option, None, Some, Result, Ok, if◌then◌else◌}
use lib.Chars.{codes}
use Rattle.std.specs.Str.{bytes_eq}
use Rattle.qws_base.specs.declared.inks.Ink.{Ink}
use Rattle.qws_base.specs.declared.inks.Ink.TheVariants.{Copy, Xor, And, Or}
use Rattle.qws_base.specs.declared.inks.Ink.TheVariants.{Blend}
use Rattle.script_grammar.specs.Judging.{◌⊛◌}
use Rattle.script_grammar.specs.Spelling.{colour_read}
use Rattle.script_grammar.specs.Words.{ranged}
use Rattle.script_grammar.specs.declared.lines.Cause.{Cause}
use Rattle.script_words.specs.declared.inks.Plain.{Plain}
use Rattle.script_words.specs.declared.inks.Plain.TheVariants.{Copied, Xored, Anded, Ored}

abbrev pub plain_of : List ℕ → Option Plain
plain_of word = if bytes_eq word (codes "copy") then Some Copied else if bytes_eq word (codes "xor") then Some Xored else if bytes_eq word (codes "and") then Some Anded else if bytes_eq word (codes "or") then Some Ored else None

abbrev pub plain_ink : Plain → ℕ → Ink
plain_ink Copied c = Copy c
plain_ink Xored c = Xor c
plain_ink Anded c = And c
plain_ink Ored c = Or c

-- ALPHA and COLOUR behind `blend`
abbrev pub blend_of : List ℕ → List ℕ → Result Ink Cause
blend_of a c = Ok (λ a c. Blend c a) ⊛ ranged 0 255 a ⊛ colour_read c

use Rattle.std.proofs.Common.{length}
use Rattle.script_grammar.specs.Spelling.{is_digit}
use Rattle.script_words.proofs.Digits.{IsReadTo}
use Rattle.script_words.proofs.numbers.decimal_value.Given as goal

abbrev pub invariant-loop-rest : goal.invariant-loop-rest
invariant-loop-rest l = IsReadTo 10 is_digit 5 l.digits l.n l.rest

abbrev pub decreases-loop-rest : goal.decreases-loop-rest
decreases-loop-rest l = length l.rest

use Rattle.std.proofs.Common.{length}
use Rattle.script_grammar.specs.Spelling.{is_hex}
use Rattle.script_words.proofs.Digits.{IsReadTo}
use Rattle.script_words.proofs.hex.hex_value.Given as goal

abbrev pub invariant-loop-rest : goal.invariant-loop-rest
invariant-loop-rest l = IsReadTo 16 is_hex (length l.digits) l.digits l.n l.rest

abbrev pub decreases-loop-rest : goal.decreases-loop-rest
decreases-loop-rest l = length l.rest

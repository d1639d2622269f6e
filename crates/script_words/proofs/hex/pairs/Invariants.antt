use Rattle.std.proofs.Common.{◌≡◌, Ok, length}
use Rattle.script_grammar.specs.Words.{pairs_read}
use Rattle.script_words.specs.Judged.{fronted}
use Rattle.script_words.proofs.hex.pairs.Given as goal

abbrev pub invariant-loop-rest : goal.invariant-loop-rest
invariant-loop-rest l = pairs_read l.word ≡ fronted (Ok l.all.items) (pairs_read l.rest)

abbrev pub decreases-loop-rest : goal.decreases-loop-rest
decreases-loop-rest l = length l.rest

use Rattle.std.proofs.Common.{◌≡◌, Ok, length}
use Rattle.script_grammar.specs.Words.{eights_read}
use Rattle.script_words.specs.Judged.{fronted}
use Rattle.script_words.proofs.hex.eights.Given as goal

abbrev pub invariant-loop-rest : goal.invariant-loop-rest
invariant-loop-rest l = eights_read l.word ≡ fronted (Ok l.all.items) (eights_read l.rest)

abbrev pub decreases-loop-rest : goal.decreases-loop-rest
decreases-loop-rest l = length l.rest

use Rattle.std.proofs.Common.{arith}
use Rattle.script_grammar.specs.Words.{short_read}
use Rattle.script_words.proofs.Readings.{each_step}
use Rattle.script_words.proofs.lists.shorts.Goals as goal

pub loop-rest-preserved : goal.loop-rest-preserved
loop-rest-preserved c = each_step short_read _ _ _ c.loop-rest.rest.now _ (omega arith) c.short.ensures c.in_ok-all.ensures c.loop-rest.invariant

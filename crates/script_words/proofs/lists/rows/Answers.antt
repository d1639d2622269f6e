use Rattle.std.proofs.Common.{arith}
use Rattle.script_grammar.specs.Words.{row_read}
use Rattle.script_words.proofs.Readings.{each_step}
use Rattle.script_words.proofs.lists.rows.Goals as goal

pub loop-rest-preserved : goal.loop-rest-preserved
loop-rest-preserved c = each_step (row_read c.args.width) _ _ _ c.loop-rest.rest.now _ (omega arith) c.row.ensures c.in_ok-all.ensures c.loop-rest.invariant

use Rattle.std.proofs.Common.{◌≡◌, ◌∙◌, ap, arith, length}
use Rattle.turn_logs.specs.Tables.{opening_words}
use Rattle.turn_logs.proofs.FirstTable.{length-opening}
use Rattle.fb_words.proofs.Opening.{one_more}
use Rattle.qws_rows_painters.proofs.Served.{opened}
use Rattle.qws_rows_painters.proofs.turns.opening.Goals as goal

pub loop-index-preserved : goal.loop-index-preserved
loop-index-preserved c = c.in_ok-push.ensures.items ∙ one_more c.loop-index.index c.opening_word.result c.loop-index.words.items c.loop-index.invariant c.opening_word.ensures

pub returns-clause-value : goal.returns-clause-value
returns-clause-value c = opened c.loop-index.words.items (c.loop-index.invariant ∙ ap opening_words (let a = c.loop-index-test.false in let b = c.loop-index.auto.index-end in let z : c.loop-index.index ≡ 10632 = omega arith in z))

pub returns-clause-len : goal.returns-clause-len
returns-clause-len c = ap length (opened c.loop-index.words.items (c.loop-index.invariant ∙ ap opening_words (let a = c.loop-index-test.false in let b = c.loop-index.auto.index-end in let z : c.loop-index.index ≡ 10632 = omega arith in z))) ∙ length-opening

use Rattle.std.proofs.Common.{arith, sym, ◌∙◌}
use Rattle.script_words.proofs.Readings.{start, points_step, points_odd}
use Rattle.script_words.proofs.lists.points.Goals as goal

pub loop-rest-init : goal.loop-rest-init
loop-rest-init c = start _ _ c.new.ensures.items

pub loop-rest-preserved : goal.loop-rest-preserved
loop-rest-preserved c = points_step _ _ _ c.loop-rest.rest.now _ (omega arith) c.placed_point.ensures c.in_ok-all.ensures c.loop-rest.invariant

pub returns-then-not-is_empty : goal.returns-then-not-is_empty
returns-then-not-is_empty c = points_odd _ _ c.loop-rest.rest.now (omega arith) (sym c.is_empty.ensures ∙ c.if-not-is_empty.true) c.loop-rest.invariant

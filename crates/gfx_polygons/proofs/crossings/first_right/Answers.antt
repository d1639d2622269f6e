use Rattle.gfx_polygons.proofs.EdgeLemmas.{none_before, some_before}
use Rattle.gfx_polygons.proofs.crossings.first_right.Goals as goal

pub returns-then-edge-start : goal.returns-then-edge-start
returns-then-edge-start c = λ k. none_before c.args.u c.args.l c.args.x c.args.d c.args.t k c.if-edge-start.true

pub returns-else-edge-start : goal.returns-else-edge-start
returns-else-edge-start c = λ k. some_before c.args.u c.args.l c.args.x c.args.d c.args.t k c.requires.some c.if-edge-start.false

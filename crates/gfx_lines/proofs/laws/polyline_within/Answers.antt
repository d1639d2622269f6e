use Rattle.gfx_lines.proofs.ReachLemmas.{polyline_within}
use Rattle.gfx_lines.proofs.laws.polyline_within.Goals as goal

pub returns : goal.returns
returns c = polyline_within c.args.points.now c.args.p

use Rattle.gfx_lines.proofs.ReachLemmas.{ends_within}
use Rattle.gfx_lines.proofs.laws.line_within.Goals as goal

pub returns : goal.returns
returns c = ends_within c.args.from c.args.to c.args.p

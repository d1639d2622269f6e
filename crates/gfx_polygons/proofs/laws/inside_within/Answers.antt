use Rattle.gfx_polygons.proofs.BoxLemmas.{inside_within}
use Rattle.gfx_polygons.proofs.laws.inside_within.Goals as goal

pub returns : goal.returns
returns c = inside_within c.args.first c.args.rest.now c.args.p

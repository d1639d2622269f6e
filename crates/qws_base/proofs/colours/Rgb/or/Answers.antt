use Rattle.std.proofs.lemmas.Nat.{or_lt}
use Rattle.qws_base.proofs.DepthLemmas.{or_scene_colour}
use Rattle.qws_base.proofs.colours.Rgb.or.Goals as goal

pub invariant_of-result : goal.invariant_of-result
invariant_of-result c = or_lt 24 c.self.inside.0 c.old.inside.0 c.self.invariant c.old.invariant

pub returns-clause-range : goal.returns-clause-range
returns-clause-range c = or_scene_colour c.args.depth c.self.inside.0 c.old.inside.0 (rw c.self.view_is c.requires.new) (rw c.old.view_is c.requires.old)

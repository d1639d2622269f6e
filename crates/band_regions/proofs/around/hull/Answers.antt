use Rattle.band_regions.proofs.Lemmas.{arith, ints, clamps, hull_of}
use Rattle.band_regions.proofs.around.hull.Goals as goal

pub distance-requires-clause-low : goal.distance-requires-clause-low
distance-requires-clause-low c = omega (arith, ints, clamps)

pub distance-requires-2-clause-low : goal.distance-requires-2-clause-low
distance-requires-2-clause-low c = omega (arith, ints, clamps)

pub distance-requires-2-clause-ordered : goal.distance-requires-2-clause-ordered
distance-requires-2-clause-ordered c = omega (arith, ints, clamps)

pub returns-clause-hull : goal.returns-clause-hull
returns-clause-hull c = record { left = omega (arith, ints, clamps); ends = omega (arith, ints, clamps); top = omega (arith, ints, clamps); low = omega (arith, ints, clamps) }

pub returns-clause-in_range : goal.returns-clause-in_range
returns-clause-in_range c = (hull_of _ _ _ (returns-clause-hull c) c.requires.first c.requires.second c.requires.first_pixels c.requires.second_pixels).0

pub returns-clause-some_pixels : goal.returns-clause-some_pixels
returns-clause-some_pixels c = (hull_of _ _ _ (returns-clause-hull c) c.requires.first c.requires.second c.requires.first_pixels c.requires.second_pixels).1

use Rattle.std.proofs.Common.{arith}
use Rattle.std.proofs.lemmas.Int.{ints}
use Rattle.gfx_polygons.proofs.EdgeLemmas.{crossing_down}
use Rattle.gfx_polygons.proofs.crossings.place_of.Goals as goal

pub returns : goal.returns
returns c =
    crossing_down c.args.upper c.args.lower c.args.y c.args.x c.args.n c.first_right.result c.shifted.result c.shifted-2.result c.shifted-3.result c.distance.result c.distance-2.result
    c.requires.from c.requires.to (omega (arith, ints, c.shifted.ensures.value)) (omega (arith, ints, c.shifted-2.ensures.value)) (omega (arith, ints, c.shifted-3.ensures.value))
    (omega (arith, ints, c.distance.ensures.value)) (omega (arith, ints, c.distance-2.ensures.value)) c.first_right.ensures

use Rattle.std.proofs.Common.{◌≡◌, ◌≤◌, ◌∷◌, get_or, take}
use Rattle.gfx_polygons.specs.Polygons.{edges_from}
use Rattle.gfx_polygons.specs.Crossings.{AreCrossings}
use Rattle.gfx_polygons.proofs.crossings.crossings.Given as goal

abbrev pub invariant-loop-i : goal.invariant-loop-i
invariant-loop-i l = record {
  count : l.count ≤ l.i;
  from : l.from ≡ get_or (l.initial.from ∷ l.points) l.i l.from;
  are : AreCrossings (take l.i (edges_from l.initial.from l.points)) l.y l.x l.n (take l.count l.places);
}

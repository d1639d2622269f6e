use Rattle.std.proofs.Common.{length}
use Rattle.gfx_polygons.proofs.PlaceLemmas.{IsFilledTo}
use Rattle.gfx_polygons.proofs.crossings.fill_sorted.Given as goal

abbrev pub invariant-loop-i : goal.invariant-loop-i
invariant-loop-i l = IsFilledTo l.places l.ink l.i l.at (length l.fn.out) l.out

use Rattle.band_regions.proofs.Lemmas.{◌≡◌, take, map, shifted, shift_of}
use Rattle.band_regions.proofs.regions.Region.shift.Given as goal

abbrev pub invariant-loop-rect : goal.invariant-loop-rect
invariant-loop-rect l = l.rects.items ≡ map (shifted (shift_of l.dx l.dy)) (take l.rect-index l.rect-items)

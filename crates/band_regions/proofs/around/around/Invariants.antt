use Rattle.band_regions.proofs.Lemmas.{take, any_holds, HasPixels, IsInRange, IsLeastAround}
use Rattle.band_regions.proofs.around.around.Given as goal

abbrev pub invariant-loop-i : goal.invariant-loop-i
invariant-loop-i l = record { around : IsLeastAround l.all (any_holds (take l.i l.rects)); in_range : IsInRange l.all; some_pixels : HasPixels l.all }

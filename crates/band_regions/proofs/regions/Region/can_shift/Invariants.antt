use Rattle.band_regions.proofs.Lemmas.{take, All, IsShiftable}
use Rattle.band_regions.proofs.regions.Region.can_shift.Given as goal

abbrev pub invariant-loop-rect : goal.invariant-loop-rect
invariant-loop-rect l = All (IsShiftable l.dx l.dy) (take l.rect-index l.rect-items)

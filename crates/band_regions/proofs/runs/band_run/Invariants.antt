use Rattle.band_regions.proofs.Lemmas.{IsRunTo}
use Rattle.band_regions.proofs.runs.band_run.Given as goal

abbrev pub invariant-loop-n : goal.invariant-loop-n
invariant-loop-n l = IsRunTo l.n l.end l.rects

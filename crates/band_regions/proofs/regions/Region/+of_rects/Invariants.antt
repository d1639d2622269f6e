use Rattle.band_regions.proofs.Lemmas.{length}
use Rattle.band_regions.proofs.regions.Region.+of_rects.Given as goal

abbrev pub decreases-of_rects : goal.decreases-of_rects
decreases-of_rects l = length l.rects.now

use Rattle.band_regions.proofs.Lemmas.{arith, ints}
use Rattle.band_regions.proofs.regions.ends_by.Goals as goal

pub returns : goal.returns
returns c = grind (arith, ints)

use Rattle.band_regions.proofs.Lemmas.{arith, ints}
use Rattle.band_regions.proofs.regions.is_side_in_range.Goals as goal

pub returns-then-first-le32767 : goal.returns-then-first-le32767
returns-then-first-le32767 c = grind (arith, ints)

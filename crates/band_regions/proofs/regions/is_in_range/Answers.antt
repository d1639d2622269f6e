use Rattle.band_regions.proofs.Lemmas.{arith, ints, in_range_of}
use Rattle.band_regions.proofs.regions.is_in_range.Goals as goal

pub returns-then-is_side_in_range : goal.returns-then-is_side_in_range
returns-then-is_side_in_range c = (λ e. in_range_of _ (grind (arith, ints)) (grind (arith, ints)), λ h. grind (arith, ints))

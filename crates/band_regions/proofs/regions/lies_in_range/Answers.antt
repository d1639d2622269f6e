use Rattle.band_regions.proofs.Lemmas.{◌≡◌, arith, pos, ints, shifted, Rect, shift_of}
use Rattle.band_regions.proofs.regions.lies_in_range.Goals as goal

at_place : (r : Rect) → shifted (shift_of (pos 0) (pos 0)) r ≡ r
at_place r = grind (arith, ints)

pub returns : goal.returns
returns c = rw at_place at c.is_in_range.ensures

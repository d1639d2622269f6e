use Rattle.band_regions.proofs.Lemmas.{arith, ints, cast_y, from_first, first_len_is}
use Rattle.band_regions.proofs.bands.first_len.Goals as goal

pub band_len-requires-clause-top : goal.band_len-requires-clause-top
band_len-requires-clause-top c k d m = omega (arith, ints, from_first c.args.rects.now c.requires k d m, cast_y c.requires (omega arith))

pub returns-in-len1-up : goal.returns-in-len1-up
returns-in-len1-up c = first_len_is c.args.rects.now (omega arith) (cast_y c.requires (omega arith)) c.band_len.ensures.within c.band_len.ensures.in_band c.band_len.ensures.beyond

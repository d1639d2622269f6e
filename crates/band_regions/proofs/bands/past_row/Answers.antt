use Rattle.band_regions.proofs.Lemmas.{refl, arith, ints, take_rest, no_rect, banded_parts, from_first, past_band}
use Rattle.band_regions.proofs.bands.past_row.Goals as goal

pub first_len-requires : goal.first_len-requires
first_len-requires c = rw take_rest (banded_parts c.args.count c.requires.is_banded).1

pub returns-in-len1-up-clause-rest : goal.returns-in-len1-up-clause-rest
returns-in-len1-up-clause-rest c = record { is_banded = c.requires.is_banded; ahead = λ k d m. omega (arith, ints, c.bottom_end.ensures, from_first c.args.rects.now c.requires.is_banded k d m); same = λ p m. refl }

pub returns-in_default-clause-rest : goal.returns-in_default-clause-rest
returns-in_default-clause-rest c = rw take_rest (past_band c.requires.is_banded c.requires.count (omega (arith, ints, c.requires.no_end_before 0 no_rect (omega arith), c.bottom_end.ensures)))

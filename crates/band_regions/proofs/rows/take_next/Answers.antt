use Rattle.band_regions.proofs.Lemmas.{arith, ints, take_rest, no_rect, taken_first, taken_second}
use Rattle.band_regions.proofs.rows.take_next.Goals as goal

pub returns-then-start_of : goal.returns-then-start_of
returns-then-start_of c = rw take_rest (taken_first _ _ no_rect c.requires.first c.requires.second c.requires.some (omega (arith, ints)))

pub returns-else-start_of : goal.returns-else-start_of
returns-else-start_of c = rw take_rest (taken_second _ _ no_rect c.requires.first c.requires.second c.requires.some (omega (arith, ints)))

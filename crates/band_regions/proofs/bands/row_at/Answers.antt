use Rattle.band_regions.proofs.Lemmas.{sym, arith, ints, in_row, no_rect, cast_y, none_above, row_of_first, row_columns}
use Rattle.band_regions.proofs.bands.row_at.Goals as goal

pub returns-then-rect-row-clause-is_row : goal.returns-then-rect-row-clause-is_row
returns-then-rect-row-clause-is_row c = row_of_first c.requires.is_banded c.requires.count

pub returns-then-rect-row-clause-columns : goal.returns-then-rect-row-clause-columns
returns-then-rect-row-clause-columns c = row_columns c.requires.is_banded c.requires.count (omega (arith, ints, cast_y c.requires.is_banded (omega arith))) (c.requires.ahead 0 no_rect (omega arith))

pub returns-else-rect-row-clause-columns : goal.returns-else-rect-row-clause-columns
returns-else-rect-row-clause-columns c p = sym (none_above c.requires.is_banded (in_row c.args.row p) (omega (arith, ints, cast_y c.requires.is_banded (omega arith))))

use Rattle.band_regions.proofs.Lemmas.{sym, ◌∙◌, arith, ints, in_row, cast_y, from_first, none_above, alike_in_band}
use Rattle.band_regions.proofs.bands.next_row.Goals as goal

pub returns-then-from-rect-clause-no_end_before : goal.returns-then-from-rect-clause-no_end_before
returns-then-from-rect-clause-no_end_before c k d m = omega (arith, ints, from_first c.args.rects.now c.requires.is_banded k d m, cast_y c.requires.is_banded (omega arith))

pub returns-then-from-rect-clause-uniform : goal.returns-then-from-rect-clause-uniform
returns-then-from-rect-clause-uniform c p l h = let is = cast_y c.requires.is_banded (omega arith) in
    none_above c.requires.is_banded p (omega (arith, ints)) ∙ sym (none_above c.requires.is_banded (in_row c.args.from p) (omega (arith, ints)))

pub returns-else-from-rect-clause-no_end_before : goal.returns-else-from-rect-clause-no_end_before
returns-else-from-rect-clause-no_end_before c k d m = omega (arith, ints, from_first c.args.rects.now c.requires.is_banded k d m, c.bottom_end.ensures)

pub returns-else-from-rect-clause-uniform : goal.returns-else-from-rect-clause-uniform
returns-else-from-rect-clause-uniform c p l h = alike_in_band c.requires.is_banded c.args.from p (omega (arith, ints, cast_y c.requires.is_banded (omega arith))) l (omega (arith, ints))

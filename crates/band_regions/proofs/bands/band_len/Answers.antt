use Rattle.band_regions.proofs.Lemmas.{◌≡◌, arith, to_z, of_z, w32, ints, All-more, Rect, no_rect, beyond}
use Rattle.band_regions.proofs.bands.band_len.Goals as goal

pub loop-n-preserved : goal.loop-n-preserved
loop-n-preserved c = let r = c.requires.is_banded.in_range c.loop-n.n no_rect (omega arith) in
    (omega arith, All-more (λ (s : Rect). s.y ≡ to_z w32 (of_z w32 c.args.top)) _ _ no_rect (omega arith) c.loop-n.invariant.1 (omega (arith, ints)))

pub returns-else-rects-n-clause-beyond : goal.returns-else-rects-n-clause-beyond
returns-else-rects-n-clause-beyond c = let r = c.requires.is_banded.in_range c.loop-n.n no_rect (omega arith) in
    beyond c.requires.is_banded c.loop-n.n (omega arith) (omega (arith, ints, c.requires.top c.loop-n.n no_rect (omega arith), c.if-rects-n.false))

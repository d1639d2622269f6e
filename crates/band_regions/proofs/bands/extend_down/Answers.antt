use Rattle.band_regions.proofs.Lemmas.{◌≡◌, ◌+◌, ◌-◌, take, drop, arith, length-take-le, length-drop, taller, extended}
use Rattle.band_regions.proofs.bands.extend_down.Goals as goal

pub loop-i-preserved : goal.loop-i-preserved
loop-i-preserved c = let items = c.args.rects.now.items in let last = c.args.last in let next : c.loop-i.i + 1 - last ≡ c.loop-i.i - last + 1 = omega arith in
    rw next (extended (taller c.args.height) (take last items) (drop last items) (c.loop-i.i - last) c.loop-i.i _ _ (omega (arith, length-take-le last items (omega (arith, c.args.rects.now.ok.0)))) (omega (arith, c.args.rects.now.ok.0, length-drop last items)) c.loop-i.invariant c.index_mut.ensures.value)

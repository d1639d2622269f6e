use Rattle.band_regions.proofs.Lemmas.{arith, no_rect, around_more}
use Rattle.band_regions.proofs.around.around.Goals as goal

pub loop-i-preserved : goal.loop-i-preserved
loop-i-preserved c = let h = c.loop-i.invariant in let hull = c.hull-all.ensures in record {
  around = around_more _ _ no_rect _ _ (omega arith) h.some_pixels (c.requires.some_pixels _ _ (omega arith)) h.around hull.hull;
  in_range = hull.in_range;
  some_pixels = hull.some_pixels;
}

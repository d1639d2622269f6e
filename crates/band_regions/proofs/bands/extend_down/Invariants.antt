use Rattle.band_regions.proofs.Lemmas.{◌≡◌, ◌-◌, ◌++◌, take, drop, map, taller}
use Rattle.band_regions.proofs.bands.extend_down.Given as goal

abbrev pub invariant-loop-i : goal.invariant-loop-i
invariant-loop-i l = l.rects.items ≡ (take l.last l.fn.rects.items ++ map (taller l.height) (take (l.i - l.last) (drop l.last l.fn.rects.items))) ++ drop (l.i - l.last) (drop l.last l.fn.rects.items)

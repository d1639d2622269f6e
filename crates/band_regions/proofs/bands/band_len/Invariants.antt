use Rattle.band_regions.proofs.Lemmas.{◌≡◌, ◌-◌, ◌≤◌, length, take, All}
use Rattle.band_regions.proofs.bands.band_len.Given as goal

abbrev pub invariant-loop-n : goal.invariant-loop-n
invariant-loop-n l = (l.n ≤ length l.rects) × All (λ r. r.y ≡ l.top) (take l.n l.rects)

abbrev pub decreases-loop-n : goal.decreases-loop-n
decreases-loop-n l = length l.rects - l.n

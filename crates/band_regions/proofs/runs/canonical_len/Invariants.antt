use Rattle.band_regions.proofs.Lemmas.{◌-◌, ◌≤◌, length, take, IsSweptTo}
use Rattle.band_regions.proofs.runs.canonical_len.Given as goal

abbrev pub invariant-loop-end : goal.invariant-loop-end
invariant-loop-end l = record { within : l.end ≤ length l.rects; swept : IsSweptTo l.y l.last (take l.end l.rects) }

abbrev pub decreases-loop-end : goal.decreases-loop-end
decreases-loop-end l = length l.rects - l.end

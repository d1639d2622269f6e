use Rattle.band_regions.proofs.Lemmas.{pos, ◌-ℤ◌, nat_abs, IsFirstLen, IsSwept}
use Rattle.band_regions.proofs.sweeps.sweep.Given as goal

abbrev pub invariant-loop-first : goal.invariant-loop-first
invariant-loop-first l = record { swept : IsSwept l.operation l.fn.first l.fn.second l.y l.last l.first l.second l.rects.items; first_count : IsFirstLen l.first_count l.first; second_count : IsFirstLen l.second_count l.second }

abbrev pub decreases-loop-first : goal.decreases-loop-first
decreases-loop-first l = nat_abs (pos 32768 -ℤ l.y)

use Rattle.band_regions.proofs.Lemmas.{◌+◌, ◌&&◌, length, has_column, IsBandRow, IsMeeting}
use Rattle.band_regions.proofs.rows.meet_rows.Given as goal

abbrev pub invariant-loop-first : goal.invariant-loop-first
invariant-loop-first l = record {
  meeting : IsMeeting l.top l.height l.fn.rects.items (λ c. has_column l.fn.first c && has_column l.fn.second c) l.first l.second l.rects.items;
  first : IsBandRow l.first;
  second : IsBandRow l.second;
}

abbrev pub decreases-loop-first : goal.decreases-loop-first
decreases-loop-first l = length l.first + length l.second

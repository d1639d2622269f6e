use Rattle.band_regions.proofs.Lemmas.{◌+◌, ◌&&◌, ◌≤ℤ◌, length, not, has_column, start_of_row, IsBandRow, IsMeeting, gaps}
use Rattle.band_regions.proofs.rows.subtract_row.Given as goal

abbrev pub invariant-loop-first : goal.invariant-loop-first
invariant-loop-first l = record {
  meeting : IsMeeting l.top l.height l.fn.rects.items (λ c. has_column l.fn.first c && not (has_column l.fn.second c)) l.first (gaps l.free l.second) l.rects.items;
  first : IsBandRow l.first;
  second : IsBandRow l.second;
  ahead : l.free ≤ℤ start_of_row l.second;
}

abbrev pub decreases-loop-first : goal.decreases-loop-first
decreases-loop-first l = length l.first + length l.second

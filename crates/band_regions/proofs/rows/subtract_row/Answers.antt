use Rattle.band_regions.proofs.Lemmas.{◌≡◌, ◌<◌, ◌&&◌, length, get_or, ap, arith, to_z, of_z, w32, negsuc, ints, clamps, take_rest, right, start_of_row, has_column, no_rect, no_more, some_more, rest_row, start_place, parted, ends_before, next_place, gap_end, gaps, gaps_next, gaps_parted, gaps_same, meeting_none, turned, meet_on, meet_all}
use Rattle.band_regions.proofs.rows.subtract_row.Goals as goal

pub loop-first-init : goal.loop-first-init
loop-first-init c = record {
  meeting = meeting_none _ _ _ _ (gaps (negsuc 32767) c.args.second.now) c.requires.first (gaps_same c.requires.first c.requires.second);
  first = c.requires.first;
  second = c.requires.second;
  ahead = (start_place c.args.second.now c.requires.second).0;
}

pub push_columns-requires-clause-low : goal.push_columns-requires-clause-low
push_columns-requires-clause-low c = let s = start_place c.loop-first.first.now c.loop-first.invariant.first in omega (arith, ints, clamps)

pub push_columns-requires-clause-high : goal.push_columns-requires-clause-high
push_columns-requires-clause-high c = let s = c.loop-first.invariant.first.each 0 no_rect (some_more _ c.loop-first-test.ensures) in omega (arith, ints, clamps)

pub right_end-free-requires : goal.right_end-free-requires
right_end-free-requires c = c.loop-first.invariant.second.each 0 no_rect (omega arith)

pub loop-first-preserved : goal.loop-first-preserved
loop-first-preserved c = let i = c.loop-first.invariant in let some : 0 < length c.loop-first.second.now = omega arith in
    let p = parted no_rect i.first (some_more _ c.loop-first-test.ensures) in let q = parted no_rect i.second some in
    let start = ap start_of_row q.is in let end = gap_end _ c.loop-first.second.now i.ahead in let free : to_z w32 (of_z w32 c.right_end-free.result) ≡ right (get_or c.loop-first.second.now 0 no_rect) = omega (arith, ints) in
    rw (take_rest, c.in_ok-push_columns.ensures, free) (record {
      meeting = rw (← gaps_next c.loop-first.second.now no_rect some) (turned _ _ _ _ (meet_on _ _ _ _ _ (to_z w32 (of_z w32 c.min.result)) (turned _ _ _ _ i.meeting) (gaps_parted _ i.second i.ahead) p
          (omega (arith, ints)) (omega (arith, ints, clamps)) (omega (arith, ints, clamps))));
      first = i.first;
      second = rest_row _ i.second;
      ahead = next_place no_rect i.second some;
    })

pub loop-first-preserved-then-second-lt1 : goal.loop-first-preserved-then-second-lt1
loop-first-preserved-then-second-lt1 c = let i = c.loop-first.invariant in let p = parted no_rect i.first (some_more _ c.loop-first-test.ensures) in
    let ends = ends_before c.loop-first.second.now no_rect _ p.high (λ m. absurd (omega arith)) in let end = gap_end _ c.loop-first.second.now i.ahead in rw (take_rest, c.in_ok-push_columns.ensures) (record {
      meeting = meet_on _ _ _ _ _ (to_z w32 (of_z w32 c.min.result)) i.meeting p (gaps_parted _ i.second i.ahead) (omega (arith, ints)) (omega (arith, ints, clamps)) (omega (arith, ints, clamps));
      first = rest_row _ i.first;
      second = i.second;
      ahead = i.ahead;
    })

pub loop-first-preserved-then-end-hole : goal.loop-first-preserved-then-end-hole
loop-first-preserved-then-end-hole c = let i = c.loop-first.invariant in let p = parted no_rect i.first (some_more _ c.loop-first-test.ensures) in
    let ends = ends_before c.loop-first.second.now no_rect _ p.high (λ m. omega (arith, ints)) in let end = gap_end _ c.loop-first.second.now i.ahead in rw (take_rest, c.in_ok-push_columns.ensures) (record {
      meeting = meet_on _ _ _ _ _ (to_z w32 (of_z w32 c.min.result)) i.meeting p (gaps_parted _ i.second i.ahead) (omega (arith, ints)) (omega (arith, ints, clamps)) (omega (arith, ints, clamps));
      first = rest_row _ i.first;
      second = i.second;
      ahead = i.ahead;
    })

pub returns : goal.returns
returns c = let top : to_z w32 (of_z w32 c.args.top) ≡ c.args.top = omega (arith, ints) in meet_all _ _ _ _ (rw top at c.loop-first.invariant.meeting) (λ x. rw (no_more _ c.loop-first-test.ensures))

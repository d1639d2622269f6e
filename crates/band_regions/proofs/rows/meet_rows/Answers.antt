use Rattle.band_regions.proofs.Lemmas.{◌≡◌, ◌&&◌, ap, ◌∙◌, arith, to_z, of_z, w32, ints, clamps, refl, take_rest, has_column, and_false, no_rect, no_more, some_more, rest_row, start_place, parted, meeting_none, turned, meet_on, meet_all}
use Rattle.band_regions.proofs.rows.meet_rows.Goals as goal

pub loop-first-init : goal.loop-first-init
loop-first-init c = record { meeting = meeting_none _ _ _ _ c.args.second.now c.requires.first (λ x. refl); first = c.requires.first; second = c.requires.second }

pub push_columns-requires-clause-low : goal.push_columns-requires-clause-low
push_columns-requires-clause-low c = let s = start_place c.loop-first.first.now c.loop-first.invariant.first in omega (arith, ints, clamps)

pub push_columns-requires-clause-high : goal.push_columns-requires-clause-high
push_columns-requires-clause-high c = let s = c.loop-first.invariant.first.each 0 no_rect (some_more _ c.loop-first-test.ensures) in omega (arith, ints, clamps)

pub loop-first-preserved-then-end-other_end : goal.loop-first-preserved-then-end-other_end
loop-first-preserved-then-end-other_end c = let i = c.loop-first.invariant in
    let p = parted no_rect i.first (some_more _ c.loop-first-test.ensures) in let q = parted no_rect i.second (some_more _ c.if-not-is_empty.ensures) in rw (take_rest, c.in_ok-push_columns.ensures) (record {
      meeting = meet_on _ _ _ _ _ (to_z w32 (of_z w32 c.min.result)) i.meeting p q (omega (arith, ints)) (omega (arith, ints, clamps)) (omega (arith, ints, clamps));
      first = rest_row _ i.first;
      second = i.second;
    })

pub loop-first-preserved : goal.loop-first-preserved
loop-first-preserved c = let i = c.loop-first.invariant in
    let p = parted no_rect i.first (some_more _ c.loop-first-test.ensures) in let q = parted no_rect i.second (some_more _ c.if-not-is_empty.ensures) in rw (take_rest, c.in_ok-push_columns.ensures) (record {
      meeting = turned _ _ _ _ (meet_on _ _ _ _ _ (to_z w32 (of_z w32 c.min.result)) (turned _ _ _ _ i.meeting) q p (omega (arith, ints)) (omega (arith, ints, clamps)) (omega (arith, ints, clamps)));
      first = i.first;
      second = rest_row _ i.second;
    })

pub returns-else-not-is_empty : goal.returns-else-not-is_empty
returns-else-not-is_empty c = let top : to_z w32 (of_z w32 c.args.top) ≡ c.args.top = omega (arith, ints) in meet_all _ _ _ _ (rw top at c.loop-first.invariant.meeting) (λ x. rw (no_more _ c.if-not-is_empty.ensures) (and_false _))

pub returns-after-loop-first : goal.returns-after-loop-first
returns-after-loop-first c = let top : to_z w32 (of_z w32 c.args.top) ≡ c.args.top = omega (arith, ints) in meet_all _ _ _ _ (rw top at c.loop-first.invariant.meeting) (λ x. rw (no_more _ c.loop-first-test.ensures))

use Rattle.band_regions.proofs.Lemmas.{◌≡◌, sym, ◌∙◌, arith, to_z, of_z, w32, ints, clamps, take_at, drop_at, list_any-append, holds, swept_none, swept_step, more_left, swept_all, no_more}
use Rattle.band_regions.proofs.sweeps.sweep.Goals as goal
use Rattle.band_regions.proofs.sweeps.sweep.Goals.{then-not-is_empty, else-not-is_empty+then-not-is_empty-2}

pub loop-first-init : goal.loop-first-init
loop-first-init c = record { swept = rw c.in_ok-rects.ensures.items (swept_none c.requires.first c.requires.second); first_count = c.first_len-first_count.ensures; second_count = c.first_len-second_count.ensures }

pub next_row-requires-clause-low : goal.next_row-requires-clause-low
next_row-requires-clause-low c = elim c.if-not-is_empty.branch [
  | then-not-is_empty w ↦ more_left _ c.loop-first.invariant.swept.first_left w.if-not-is_empty.ensures
  | else-not-is_empty+then-not-is_empty-2 w ↦ more_left _ c.loop-first.invariant.swept.second_left w.if-not-is_empty-2.ensures
]

pub distance-height-requires-clause-ordered : goal.distance-height-requires-clause-ordered
distance-height-requires-clause-ordered c = omega (arith, ints, clamps)

pub distance-height-requires-clause-high : goal.distance-height-requires-clause-high
distance-height-requires-clause-high c = omega (arith, ints, clamps)

pub close_band-last-requires-clause-swept : goal.close_band-last-requires-clause-swept
close_band-last-requires-clause-swept c = let added = c.in_ok-combine.ensures in rw (added.appended, take_at c.loop-first.rects.items added.band c.len-start.result (omega (arith, c.loop-first.rects.ok.0))) c.loop-first.invariant.swept.swept

pub close_band-last-requires-clause-is_band : goal.close_band-last-requires-clause-is_band
close_band-last-requires-clause-is_band c = let added = c.in_ok-combine.ensures in rw (added.appended, drop_at c.loop-first.rects.items added.band c.len-start.result (omega (arith, c.loop-first.rects.ok.0))) added.is_band

pub close_band-last-requires-clause-some : goal.close_band-last-requires-clause-some
close_band-last-requires-clause-some c = omega (arith, ints, clamps)

pub close_band-last-requires-clause-high : goal.close_band-last-requires-clause-high
close_band-last-requires-clause-high c = omega (arith, ints, clamps)

pub past_row-requires-clause-no_end_before : goal.past_row-requires-clause-no_end_before
past_row-requires-clause-no_end_before c k d m = omega (arith, ints, clamps, c.next_row.ensures.no_end_before k d m)

pub past_row-requires-in-loop-first-clause-no_end_before : goal.past_row-requires-in-loop-first-clause-no_end_before
past_row-requires-in-loop-first-clause-no_end_before c k d m = omega (arith, ints, clamps, c.next_row-in-loop-first.ensures.no_end_before k d m)

pub loop-first-smaller : goal.loop-first-smaller
loop-first-smaller c = omega (arith, ints, clamps)

pub loop-first-preserved : goal.loop-first-preserved
loop-first-preserved c = let next : to_z w32 (of_z w32 c.min-next.result) ≡ c.min-next.result = omega (arith, ints) in let added = c.in_ok-combine.ensures in rw next (record {
  swept = swept_step c.loop-first.invariant.swept c.row_at-first_row.result.now c.row_at-second_row.result.now (omega (arith, ints, clamps)) (omega (arith, ints, clamps)) (rw next at c.distance-height.ensures)
      (λ p l m. c.row_at-first_row.ensures.columns p ∙ sym (c.next_row.ensures.uniform p l (omega (arith, ints, clamps)))) (λ p l m. c.row_at-second_row.ensures.columns p ∙ sym (c.next_row-in-loop-first.ensures.uniform p l (omega (arith, ints, clamps))))
      added.is_band added.has c.close_band-last.ensures.swept (λ p. cc (c.close_band-last.ensures.points p, added.appended, list_any-append (λ r. holds r p) c.loop-first.rects.items added.band))
      (rw next at c.past_row.ensures.rest) (rw next at c.past_row-in-loop-first.ensures.rest);
  first_count = c.past_row.ensures.count;
  second_count = c.past_row-in-loop-first.ensures.count;
})

pub returns-clause-points : goal.returns-clause-points
returns-clause-points c = swept_all c.loop-first.invariant.swept (no_more _ c.if-not-is_empty.ensures) (no_more _ c.if-not-is_empty-2.ensures)

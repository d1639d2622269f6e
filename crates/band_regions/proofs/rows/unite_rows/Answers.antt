use Rattle.band_regions.proofs.Lemmas.{◌≡◌, arith, to_z, of_z, w32, ints, clamps, refl, on_ok_weaker, no_more, uniting_none, uniting_on, uniting_gap, uniting_all}
use Rattle.band_regions.proofs.rows.unite_rows.Goals as goal
use Rattle.band_regions.proofs.rows.unite_rows.Goals.{then-to-span+in_ok-push_columns, else-to-span}

pub loop-first-init : goal.loop-first-init
loop-first-init c = uniting_none _ _ _ _ _ c.requires.first c.requires.second (omega (arith, ints, clamps)) (λ x. refl)

pub loop-first-preserved : goal.loop-first-preserved
loop-first-preserved c = let s = c.take_next.ensures.is_span in elim c.if-to-span.branch [
  | then-to-span+in_ok-push_columns w ↦ rw (w.rects-is, w.in_ok-push_columns.ensures) (uniting_gap _ _ _ _ _ c.loop-first.invariant c.take_next.ensures _ (omega (arith, ints, w.if-to-span.true)) (omega (arith, ints, w.from-is)) (omega (arith, ints, clamps)))
  | else-to-span w ↦ rw (w.from-is, w.rects-is) (uniting_on _ _ _ _ _ c.loop-first.invariant c.take_next.ensures (omega (arith, ints, w.if-to-span.false)) (omega (arith, ints, clamps)))
]

pub returns : goal.returns
returns c = let top : to_z w32 (of_z w32 c.args.top) ≡ c.args.top = omega (arith, ints) in
    on_ok_weaker c.push_columns-2.result (λ now. rw (rw top at now) (uniting_all _ _ _ _ (rw (top, no_more _ c.if-not-is_empty.ensures, no_more _ c.if-not-is_empty-2.ensures) at c.loop-first.invariant))) c.push_columns-2.ensures

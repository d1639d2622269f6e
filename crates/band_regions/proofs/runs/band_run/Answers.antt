use Rattle.band_regions.proofs.Lemmas.{◌≡◌, length, ◌∙◌, arith, to_z, of_z, w32, ints, span_of_next, run_more, run_of, no_rect}
use Rattle.band_regions.proofs.runs.band_run.Goals as goal

pub loop-n-init : goal.loop-n-init
loop-n-init c = record { each = tt; gaps = tt; level = λ d. tt; high = λ d m. absurd (omega arith); ends = tt }

pub right_end-end-requires : goal.right_end-end-requires
right_end-end-requires c = span_of_next _ _ _ (c.requires c.loop-n.n no_rect (omega arith)) c.if-not-continues.ensures

pub loop-n-preserved : goal.loop-n-preserved
loop-n-preserved c = let end : to_z w32 (of_z w32 c.right_end-end.result) ≡ c.right_end-end.result = omega (arith, ints) in
    run_more _ _ _ _ no_rect (omega arith) c.loop-n.invariant (c.requires c.loop-n.n no_rect (omega arith)) c.if-not-continues.ensures (end ∙ c.right_end-end.ensures)

pub returns-then-not-continues : goal.returns-then-not-continues
returns-then-not-continues c = run_of _ _ _ (omega arith) c.loop-n.invariant

pub returns : goal.returns
returns c = let n : c.loop-n.n ≡ length c.args.rects.now = omega arith in rw (← n) (run_of _ _ _ (omega arith) c.loop-n.invariant)

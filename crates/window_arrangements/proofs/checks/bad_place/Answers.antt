use Rattle.std.proofs.Common.{sym, arith, below_more}
use Rattle.qws_base.specs.Refusals.{no_rect}
use Rattle.window_arrangements.proofs.CheckLemmas.{first_bad, none_bad, bad_late, bad_rect, fine_place}
use Rattle.window_arrangements.proofs.checks.bad_place.Goals as goal
use Rattle.window_arrangements.proofs.checks.bad_place.Goals.{then-k-ge-MOST_REQUESTED-via-then-k-ge-MOST_REQUESTED, then-k-ge-MOST_REQUESTED-via-else-k-ge-MOST_REQUESTED+then-not-is_requestable}

pub returns-then-k-ge-MOST_REQUESTED : goal.returns-then-k-ge-MOST_REQUESTED
returns-then-k-ge-MOST_REQUESTED c =
    elim c.then-k-ge-MOST_REQUESTED.branch [
      | then-k-ge-MOST_REQUESTED-via-then-k-ge-MOST_REQUESTED w ↦ first_bad c.args.rects.now c.loop-k.k c.loop-k-test.true c.loop-k.invariant (bad_late c.args.rects.now c.loop-k.k w.if-k-ge-MOST_REQUESTED.true)
      | then-k-ge-MOST_REQUESTED-via-else-k-ge-MOST_REQUESTED+then-not-is_requestable w ↦ first_bad c.args.rects.now c.loop-k.k c.loop-k-test.true c.loop-k.invariant
          (bad_rect c.args.rects.now c.loop-k.k no_rect c.loop-k-test.true (sym w.if-not-is_requestable.ensures))
    ]

pub loop-k-preserved : goal.loop-k-preserved
loop-k-preserved c = below_more _ _ c.loop-k.invariant (fine_place c.args.rects.now c.loop-k.k no_rect c.loop-k-test.true c.if-k-ge-MOST_REQUESTED.false (sym c.if-not-is_requestable.ensures))

pub returns : goal.returns
returns c = none_bad c.args.rects.now (λ j low. c.loop-k.invariant j (let end = c.loop-k-test.false in omega (arith, low, end)))

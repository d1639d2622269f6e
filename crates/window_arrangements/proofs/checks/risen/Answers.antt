use Rattle.std.proofs.Common.{◌+◌, get_or, if◌then◌else◌, arith}
use Rattle.std.proofs.lemmas.List.FromFn.{fill_by_all}
use Rattle.qws_base.specs.Stacking.{slots}
use Rattle.qws_base.specs.Steps.{is_changed}
use Rattle.window_arrangements.proofs.checks.risen.Goals as goal

pub returns : goal.returns
unfolding slots
returns c =
    fill_by_all (λ k. if is_changed c.args.before.now.size c.args.before.now.windows c.args.after.now.windows k then get_or c.args.revisions k 0 + 1 else get_or c.args.revisions k 0) c.loop-slot.risen 32 0 c.loop-slot.invariant.long
    (λ k low. c.loop-slot.invariant.done k (let end = c.loop-slot-test.false in omega (arith, low, end)))

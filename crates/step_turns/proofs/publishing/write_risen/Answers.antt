use Rattle.std.proofs.Common.{sym, subst}
use Rattle.qws_base.specs.Sides.{Sides}
use Rattle.qws_base.specs.Arranged.{IsArranged}
use Rattle.qws_base.proofs.ArrangedLemmas.{arranged_law}
use Rattle.window_core.specs.CoreViews.{CoreView, PlanView}
use Rattle.step_turns.proofs.After.{few_risen}
use Rattle.step_turns.proofs.publishing.write_risen.Goals as goal

pub write_rows-requires-clause-slots : goal.write_rows-requires-clause-slots
write_rows-requires-clause-slots c = few_risen c.args.core.now c.args.plan.now c.requires.belongs

pub write_rows-requires-clause-arranged : goal.write_rows-requires-clause-arranged
write_rows-requires-clause-arranged c =
    let core : CoreView = c.args.core.now in
    let plan : PlanView = c.args.plan.now in
    subst (λ (z : Sides). IsArranged z plan.windows) (sym c.requires.belongs.screen)
    (subst (IsArranged core.size) (sym c.requires.belongs.windows) (arranged_law.stays core.size core.state plan.client plan.command c.requires.served.windows))

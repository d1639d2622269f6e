use Rattle.std.proofs.Common.{◌≡◌, false, sym, ap, ◌∙◌, subst}
use Rattle.qws_base.specs.States.{is_refused}
use Rattle.qws_base.specs.Steps.{answer}
use Rattle.qws_base.specs.declared.commands.Command.{Command}
use Rattle.window_core.specs.CoreViews.{CoreView, PlanView}
use Rattle.step_regions.proofs.Moved.{moved_low}
use Rattle.step_regions.proofs.moves.carried_by.Goals as goal

pub carried_to-requires-clause-slot : goal.carried_to-requires-clause-slot
carried_to-requires-clause-slot c =
    let core : CoreView = c.args.core.now in
    let plan : PlanView = c.args.plan.now in
    moved_low core.size core.state plan.client c.in-Move.slot c.in-Move.origin c.windows-windows.ensures.served.windows.each
    (subst (λ (k : Command). is_refused (answer core.size core.state plan.client k) ≡ false) (c.requires.command ∙ c.in-Move.is)
    (ap is_refused (sym (c.reply.ensures ∙ c.requires.belongs.reply)) ∙ sym c.is_refused.ensures ∙ c.if-is_refused.false))

use Rattle.std.proofs.Common.{◌∙◌, sym, ap, subst}
use Rattle.qws_base.specs.Stacking.{windows_without}
use Rattle.window_stack.specs.Stacks.{stack_of}
use Rattle.window_arrangements.specs.Arrangements.{ArrangementView, OthersAsk, IsRequestOf}
use Rattle.window_arrangements.proofs.ArrangementLemmas.{without_twice, others_same, gone_asks}
use Rattle.window_arrangements.proofs.arrangements.Arrangement.destroyed.Goals as goal

pub rearranged-requires-clause-others : goal.rearranged-requires-clause-others
rearranged-requires-clause-others c =
    let was = c.in_ok-stack.ensures ∙ c.self.invariant.stacked ∙ ap (λ (v : ArrangementView). stack_of v.windows) c.self.view_is in
    ap (windows_without c.args.slot) c.destroy.ensures.destroyed ∙ without_twice c.args.slot c.in_ok-stack.stack ∙ ap (windows_without c.args.slot) was

pub rearranged-requires-clause-asking : goal.rearranged-requires-clause-asking
rearranged-requires-clause-asking c =
    let ws = c.args.self.now.windows in
    subst (λ vs. OthersAsk c.args.self.now.size c.args.slot ws vs) (sym (c.in_ok-windows.ensures ∙ ap (windows_without c.args.slot) c.windows.ensures))
    (others_same c.args.self.now.size c.args.slot ws (windows_without c.args.slot ws) (without_twice c.args.slot ws))

pub rearranged-requires-clause-request : goal.rearranged-requires-clause-request
rearranged-requires-clause-request c =
    let ws = c.args.self.now.windows in
    subst (λ vs. IsRequestOf c.args.self.now.size c.args.slot vs c.in_ok-request.request) (sym (c.in_ok-windows.ensures ∙ ap (windows_without c.args.slot) c.windows.ensures))
    (gone_asks c.args.self.now.size c.args.slot c.in_ok-request.request ws)

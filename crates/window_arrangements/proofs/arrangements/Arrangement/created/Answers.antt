use Rattle.std.proofs.Common.{◌∙◌, ◌+◌, not, List, sym, ap, subst, arith}
use Rattle.qws_base.specs.Stacking.{slots, free_slot, new_window, windows_created, windows_without}
use Rattle.qws_base.specs.declared.windows.WindowView.{WindowView}
use Rattle.qws_base.specs.Windows.{is_live}
use Rattle.qws_base.proofs.ListLemmas.{found}
use Rattle.window_stack.specs.Stacks.{stack_of}
use Rattle.window_arrangements.specs.Arrangements.{ArrangementView, OthersAsk, IsRequestOf}
use Rattle.window_arrangements.proofs.ArrangementLemmas.{put_at, others_beside, put_asks, created_is, its_slot}
use Rattle.window_arrangements.proofs.arrangements.Arrangement.created.Goals as goal

pub rearranged-requires-clause-slot : goal.rearranged-requires-clause-slot
unfolding slots
rearranged-requires-clause-slot c =
    let high = (found (λ s. not (is_live c.in_ok-stack.stack s)) 0 32 c.in-Ok.slot c.in-Ok.ensures.slot).high in
    omega (arith, high)

pub rearranged-requires-clause-stack : goal.rearranged-requires-clause-stack
rearranged-requires-clause-stack c =
    let ws = c.args.self.now.windows in
    let slot = c.in-Ok.slot in
    let others = c.in_ok-others.ensures ∙ ap (windows_without slot) c.windows.ensures in
    let was = c.in_ok-stack.ensures ∙ c.self.invariant.stacked ∙ ap (λ (v : ArrangementView). stack_of v.windows) c.self.view_is in
    let free = sym (c.stack_of_windows.ensures.free ws) ∙ ap free_slot (sym was) ∙ c.in-Ok.ensures.slot in
    let same = c.in_ok-windows.ensures ∙ ap (λ (v : WindowView). put_at (c.args.layer + 1) v c.in_ok-others.others.items) c.new_window-window.ensures ∙ created_is ws c.in_ok-others.others.items slot c.args.client c.args.layer free others in
    c.in-Ok.ensures.created ∙ ap (windows_created c.args.client c.args.layer) was ∙ sym (c.stack_of_windows.ensures.created c.args.client c.args.layer ws) ∙ ap stack_of (sym same)

pub rearranged-requires-clause-asking : goal.rearranged-requires-clause-asking
rearranged-requires-clause-asking c =
    let ws = c.args.self.now.windows in
    let slot = c.in-Ok.slot in
    let others = c.in_ok-others.ensures ∙ ap (windows_without slot) c.windows.ensures in
    let new = new_window slot c.args.client c.args.layer in
    subst (λ vs. OthersAsk c.args.self.now.size slot ws vs) (sym (c.in_ok-windows.ensures ∙ ap (λ (v : WindowView). put_at (c.args.layer + 1) v c.in_ok-others.others.items) c.new_window-window.ensures ∙ ap (put_at (c.args.layer + 1) new) others))
    (others_beside c.args.self.now.size slot (c.args.layer + 1) new ws (its_slot new))

pub rearranged-requires-clause-request : goal.rearranged-requires-clause-request
rearranged-requires-clause-request c =
    let ws = c.args.self.now.windows in
    let slot = c.in-Ok.slot in
    let others = c.in_ok-others.ensures ∙ ap (windows_without slot) c.windows.ensures in
    let new = new_window slot c.args.client c.args.layer in
    subst (λ vs. IsRequestOf c.args.self.now.size slot vs c.in_ok-request.request) (sym (c.in_ok-windows.ensures ∙ ap (λ (v : WindowView). put_at (c.args.layer + 1) v c.in_ok-others.others.items) c.new_window-window.ensures ∙ ap (put_at (c.args.layer + 1) new) others))
    (put_asks c.args.self.now.size slot (c.args.layer + 1) new c.in_ok-request.request ws (λ p on. c.in_ok-request.ensures p))

pub returns-clause-after : goal.returns-clause-after
returns-clause-after c =
    let ws = c.args.self.now.windows in
    let slot = c.in-Ok.slot in
    let others = c.in_ok-others.ensures ∙ ap (windows_without slot) c.windows.ensures in
    let was = c.in_ok-stack.ensures ∙ c.self.invariant.stacked ∙ ap (λ (v : ArrangementView). stack_of v.windows) c.self.view_is in
    let free = sym (c.stack_of_windows.ensures.free ws) ∙ ap free_slot (sym was) ∙ c.in-Ok.ensures.slot in
    let same = c.in_ok-windows.ensures ∙ ap (λ (v : WindowView). put_at (c.args.layer + 1) v c.in_ok-others.others.items) c.new_window-window.ensures ∙ created_is ws c.in_ok-others.others.items slot c.args.client c.args.layer free others in
    c.in_ok-after.ensures ∙ ap (λ (vs : List WindowView). let v : ArrangementView = record { size = c.args.self.now.size; windows = vs } in v) same

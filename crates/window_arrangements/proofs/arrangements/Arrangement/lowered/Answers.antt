use Rattle.std.proofs.Common.{◌∙◌, ◌<◌, List, [], length, sym, ap, subst}
use Rattle.std.proofs.lemmas.List.{get_or_default}
use Rattle.qws_base.specs.Stacking.{windows_without, windows_lowered}
use Rattle.qws_base.specs.declared.windows.WindowView.{WindowView}
use Rattle.qws_base.specs.Points.{any_holds}
use Rattle.window_stack.specs.Stacks.{stack_of}
use Rattle.region_alloc.specs.Allocations.{AreRequestsOf}
use Rattle.window_arrangements.specs.Arrangements.{ArrangementView, OthersAsk, IsRequestOf}
use Rattle.window_arrangements.proofs.ArrangementLemmas.{put_at, others_beside, put_asks, kept_asks, lowered_is, its_slot}
use Rattle.window_arrangements.proofs.arrangements.Arrangement.lowered.Goals as goal

pub rearranged-requires-clause-stack : goal.rearranged-requires-clause-stack
rearranged-requires-clause-stack c =
    let ws = c.args.self.now.windows in
    let w = c.args.window.now in
    let others = c.in_ok-others.ensures ∙ ap (windows_without w.slot) c.windows.ensures in
    let was = c.in_ok-stack.ensures ∙ c.self.invariant.stacked ∙ ap (λ (v : ArrangementView). stack_of v.windows) c.self.view_is in
    let same = c.in_ok-windows.ensures ∙ lowered_is ws c.in_ok-others.others.items w c.in_ok-copy.copy c.requires.window others c.in_ok-copy.ensures in
    c.lower.ensures.lowered ∙ ap (windows_lowered w.slot) was ∙ sym (c.stack_of_windows.ensures.lowered w.slot ws) ∙ ap stack_of (sym same)

pub rearranged-requires-clause-asking : goal.rearranged-requires-clause-asking
rearranged-requires-clause-asking c =
    let ws = c.args.self.now.windows in
    let w = c.args.window.now in
    let others = c.in_ok-others.ensures ∙ ap (windows_without w.slot) c.windows.ensures in
    subst (λ vs. OthersAsk c.args.self.now.size w.slot ws vs) (sym (c.in_ok-windows.ensures ∙ ap (λ (v : WindowView). put_at c.args.window.now.layer v c.in_ok-others.others.items) c.in_ok-copy.ensures ∙ ap (put_at c.args.window.now.layer w) others))
    (others_beside c.args.self.now.size w.slot c.args.window.now.layer w ws (its_slot w))

pub rearranged-requires-clause-request : goal.rearranged-requires-clause-request
rearranged-requires-clause-request c =
    let ws = c.args.self.now.windows in
    let w = c.args.window.now in
    let others = c.in_ok-others.ensures ∙ ap (windows_without w.slot) c.windows.ensures in
    let a = c.self.inside in
    let low : w.slot < length a.requests.items = subst (λ n. w.slot < n) (sym c.self.invariant.count) c.requires.fits.slot in
    let asked = subst (λ (v : ArrangementView). AreRequestsOf v.size v.windows a.requests.items) c.self.view_is c.self.invariant.asked in
    let request = c.in_ok-request.ensures ∙ c.index.ensures ∙ get_or_default a.requests.items w.slot c.index.result.now [] low in
    subst (λ vs. IsRequestOf c.args.self.now.size w.slot vs c.in_ok-request.request) (sym (c.in_ok-windows.ensures ∙ ap (λ (v : WindowView). put_at c.args.window.now.layer v c.in_ok-others.others.items) c.in_ok-copy.ensures ∙ ap (put_at c.args.window.now.layer w) others))
    (put_asks c.args.self.now.size w.slot c.args.window.now.layer w c.in_ok-request.request ws
    (λ p on. ap (λ rs. any_holds rs p) request ∙ kept_asks c.args.self.now.size a.requests.items ws w asked c.requires.window p on))

pub returns : goal.returns
returns c =
    let ws = c.args.self.now.windows in
    let w = c.args.window.now in
    let others = c.in_ok-others.ensures ∙ ap (windows_without w.slot) c.windows.ensures in
    let same = c.in_ok-windows.ensures ∙ lowered_is ws c.in_ok-others.others.items w c.in_ok-copy.copy c.requires.window others c.in_ok-copy.ensures in
    c.in_ok-after.ensures ∙ ap (λ (vs : List WindowView). let v : ArrangementView = record { size = c.args.self.now.size; windows = vs } in v) same

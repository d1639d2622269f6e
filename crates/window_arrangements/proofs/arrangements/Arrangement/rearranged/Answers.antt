use Rattle.std.proofs.Common.{◌≡◌, ◌∙◌, ◌<◌, [], length, set, sym, ap, subst}
use Rattle.std.proofs.lemmas.List.{get_or_default, length-set}
use Rattle.qws_base.specs.Stacking.{windows_without}
use Rattle.window_stack.specs.Stacks.{stack_of}
use Rattle.region_alloc.specs.Allocations.{IsAllocation, AreRequestsOf, windows_asking}
use Rattle.region_alloc.specs.Changes.{IsSameOutside}
use Rattle.window_arrangements.specs.Arrangements.{ArrangementView, OthersAsk, IsRequestOf}
use Rattle.window_arrangements.proofs.ArrangementLemmas.{changes_one, asked_again}
use Rattle.window_arrangements.proofs.arrangements.Arrangement.rearranged.Goals as goal

pub reallocate-requires-clause-outside : goal.reallocate-requires-clause-outside
reallocate-requires-clause-outside c =
    let a = c.self.inside in
    let low : c.args.slot < length a.requests.items = subst (λ n. c.args.slot < n) (sym c.self.invariant.count) c.requires.slot in
    let again : c.deref-2.result.now ≡ set a.requests.items c.args.slot c.args.request = c.deref-2.ensures.value ∙ c.in_ok-requests.ensures ∙ ap (λ rs. set rs c.args.slot c.args.request) c.deref.ensures.value in
    let others = c.requires.others ∙ ap (λ (v : ArrangementView). windows_without c.args.slot (stack_of v.windows)) (sym c.self.view_is) in
    let one = changes_one a.size c.args.slot c.in_ok-changed.changed c.index.result.now a.windows.items a.stack c.args.stack a.requests.items c.args.request low c.self.invariant.stacked others
    (c.index.ensures ∙ get_or_default a.requests.items c.args.slot c.index.result.now [] low) c.in_ok-changed.ensures in
    subst (λ rs. IsSameOutside a.size c.in_ok-changed.changed a.allocation (windows_asking rs c.args.stack)) (sym again)
    (c.others_keep_their_pixels.ensures.regions a.size c.args.slot c.in_ok-changed.changed a.stack a.requests.items c.args.stack (set a.requests.items c.args.slot c.args.request) a.allocation one c.self.invariant.shared)

pub invariant_of-result : goal.invariant_of-result
invariant_of-result c =
    let a = c.self.inside in
    let low : c.args.slot < length a.requests.items = subst (λ n. c.args.slot < n) (sym c.self.invariant.count) c.requires.slot in
    let again : c.in_ok-requests.requests.items ≡ set a.requests.items c.args.slot c.args.request = c.in_ok-requests.ensures ∙ ap (λ rs. set rs c.args.slot c.args.request) c.deref.ensures.value in
    let asking = subst (λ (v : ArrangementView). OthersAsk v.size c.args.slot v.windows c.args.windows.items) (sym c.self.view_is) c.requires.asking in
    let own = subst (λ (v : ArrangementView). IsRequestOf v.size c.args.slot c.args.windows.items c.args.request) (sym c.self.view_is) c.requires.request in
    record {
      stacked = c.requires.stack;
      count = ap length again ∙ length-set a.requests.items c.args.slot c.args.request ∙ c.self.invariant.count;
      asked = subst (λ rs. AreRequestsOf a.size c.args.windows.items rs) (sym again) (asked_again a.size c.args.slot a.windows.items c.args.windows.items a.requests.items c.args.request low c.self.invariant.asked asking own);
      shared = subst (λ rs. IsAllocation a.size (windows_asking rs c.args.stack) c.in_ok-allocation.allocation) c.deref-2.ensures.value c.in_ok-allocation.ensures;
    }

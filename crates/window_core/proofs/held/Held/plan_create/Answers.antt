use Rattle.std.proofs.Common.{◌≡◌, ◌∙◌, true, false, Option, Some, sym, ap, subst, arith}
use Rattle.std.specs.Prelude.{nat_lt, is_none, IfSome}
use Rattle.qws_base.specs.Stacking.{free_slot, windows_created}
use Rattle.window_arrangements.specs.Arrangements.{ArrangementView}
use Rattle.window_arrangements.specs.declared.arrangements.Created.{Created}
use Rattle.window_core.specs.Planning.{state_of}
use Rattle.window_core.proofs.WindowPlanLemmas.{none_is, if_high_layer, if_none_free, if_created}
use Rattle.window_core.proofs.held.Held.plan_create.Goals as goal

pub returns-then-layer-gt1 : goal.returns-then-layer-gt1
returns-then-layer-gt1 c =
    let high : nat_lt 1 c.args.layer ≡ true = grind arith in
    if_high_layer c.args.self.now c.args.client c.args.layer c.refused.result high c.refused.ensures

pub returns-in-None : goal.returns-in-None
returns-in-None c =
    let held = c.args.self.now in
    let low : nat_lt 1 c.args.layer ≡ false = grind arith in
    let free : is_none (free_slot (state_of held).windows) ≡ true =
    sym (ap (λ (o : Option Created). is_none o) (sym c.in-None.is) ∙ c.in_ok-created.ensures.none ∙ ap (λ (v : ArrangementView). is_none (free_slot v.windows)) c.deref.ensures) in
    if_none_free held c.args.client c.args.layer c.refused-in-None.result low (none_is (free_slot (state_of held).windows) free) c.refused-in-None.ensures

pub returns-in-Some : goal.returns-in-Some
returns-in-Some c =
    let held = c.args.self.now in
    let low : nat_lt 1 c.args.layer ≡ false = grind arith in
    let ws = c.deref.result.now.windows in
    let slot = subst (λ (o : Option Created). IfSome o (λ created. free_slot ws ≡ Some created.slot)) c.in-Some.is c.in_ok-created.ensures.slot in
    let after = subst (λ (o : Option Created). IfSome o (λ created. created.after ≡ record { size = c.deref.result.now.size; windows = windows_created c.args.client c.args.layer ws })) c.in-Some.is c.in_ok-created.ensures.after in
    if_created held c.args.client c.args.layer c.in-Some.created.slot c.in-Some.created.after c.arranged.result low
    (sym (ap (λ (v : ArrangementView). free_slot v.windows) c.deref.ensures) ∙ slot)
    (after ∙ ap (λ (v : ArrangementView). let a : ArrangementView = record { size = v.size; windows = windows_created c.args.client c.args.layer v.windows } in a) c.deref.ensures)
    c.arranged.ensures

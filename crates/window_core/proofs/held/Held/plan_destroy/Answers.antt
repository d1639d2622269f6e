use Rattle.std.proofs.Common.{◌≡◌, ◌∙◌, ◌<◌, Some, ap, subst, refl}
use Rattle.qws_base.specs.Stacking.{windows_without}
use Rattle.qws_base.specs.Arranged.{IsWindow}
use Rattle.qws_base.specs.declared.commands.Command.TheVariants.{Destroy}
use Rattle.window_arrangements.specs.Arrangements.{ArrangementView}
use Rattle.window_core.specs.Planning.{size_of, state_of}
use Rattle.window_core.proofs.WindowLemmas.{found_slot, found_has}
use Rattle.window_core.proofs.WindowPlanLemmas.{if_own, if_not_own}
use Rattle.window_core.proofs.held.Held.plan_destroy.Goals as goal

pub destroyed-requires : goal.destroyed-requires
destroyed-requires c =
    let ws = (state_of c.args.self.now).windows in
    let w = c.in-Ok.field-0.now in
    subst (λ s. s < 32) (found_slot c.args.slot ws w c.in-Ok.ensures.window) (found_has IsWindow c.args.slot ws w c.requires.served.windows.each c.in-Ok.ensures.window).slot

pub returns-in-Err : goal.returns-in-Err
returns-in-Err c =
    if_not_own c.args.self.now c.args.client c.args.slot (Destroy c.args.slot) c.in-Err.cause c.refused.result refl c.in-Err.ensures.refusal c.refused.ensures

pub returns-in_ok-after-in-Ok : goal.returns-in_ok-after-in-Ok
returns-in_ok-after-in-Ok c =
    let held = c.args.self.now in
    let made : c.in_ok-after-in-Ok.after ≡ record { size = size_of held; windows = windows_without c.args.slot (state_of held).windows } =
    c.in_ok-after-in-Ok.ensures
    ∙ ap (λ (v : ArrangementView). let a : ArrangementView = record { size = v.size; windows = windows_without c.args.slot v.windows } in a) c.deref.ensures in
    if_own held c.args.client c.args.slot (Destroy c.args.slot) c.in_ok-after-in-Ok.after (Some c.args.slot) c.rearranged.result refl c.in-Ok.ensures.refusal made refl refl c.rearranged.ensures

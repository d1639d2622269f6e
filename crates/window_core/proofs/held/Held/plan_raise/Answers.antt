use Rattle.std.proofs.Common.{◌≡◌, ◌∙◌, None, ap, refl}
use Rattle.std.specs.List.{find}
use Rattle.qws_base.specs.Windows.{has_slot}
use Rattle.qws_base.specs.Stacking.{windows_raised}
use Rattle.qws_base.specs.Arranged.{IsWindow}
use Rattle.qws_base.specs.declared.commands.Command.TheVariants.{Raise}
use Rattle.window_arrangements.specs.Arrangements.{ArrangementView}
use Rattle.window_core.specs.Planning.{size_of, state_of}
use Rattle.window_core.proofs.WindowLemmas.{found_slot, found_has}
use Rattle.window_core.proofs.WindowPlanLemmas.{if_own, if_not_own, found_own}
use Rattle.window_core.proofs.held.Held.plan_raise.Goals as goal

pub raised-requires-clause-window : goal.raised-requires-clause-window
raised-requires-clause-window c =
    let w = c.in-Ok.window.now in
    ap (λ (v : ArrangementView). find (has_slot w.slot) v.windows) c.deref.ensures ∙ found_own c.args.slot (state_of c.args.self.now).windows w c.in-Ok.ensures.window

pub raised-requires-clause-fits : goal.raised-requires-clause-fits
raised-requires-clause-fits c = found_has IsWindow c.args.slot (state_of c.args.self.now).windows c.in-Ok.window.now c.requires.served.windows.each c.in-Ok.ensures.window

pub returns-in-Err : goal.returns-in-Err
returns-in-Err c =
    if_not_own c.args.self.now c.args.client c.args.slot (Raise c.args.slot) c.in-Err.cause c.refused.result refl c.in-Err.ensures.refusal c.refused.ensures

pub returns-in_ok-after-in-Ok : goal.returns-in_ok-after-in-Ok
returns-in_ok-after-in-Ok c =
    let held = c.args.self.now in
    let w = c.in-Ok.window.now in
    let made : c.in_ok-after-in-Ok.after ≡ record { size = size_of held; windows = windows_raised c.args.slot (state_of held).windows } =
    c.in_ok-after-in-Ok.ensures
    ∙ ap (λ (v : ArrangementView). let a : ArrangementView = record { size = v.size; windows = windows_raised w.slot v.windows } in a) c.deref.ensures
    ∙ ap (λ s. let a : ArrangementView = record { size = size_of held; windows = windows_raised s (state_of held).windows } in a) (found_slot c.args.slot (state_of held).windows w c.in-Ok.ensures.window) in
    if_own held c.args.client c.args.slot (Raise c.args.slot) c.in_ok-after-in-Ok.after None c.rearranged.result refl c.in-Ok.ensures.refusal made refl refl c.rearranged.ensures

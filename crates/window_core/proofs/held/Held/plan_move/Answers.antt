use Rattle.std.proofs.Common.{◌≡◌, ◌∙◌, None, sym, ap, refl}
use Rattle.std.specs.List.{find}
use Rattle.std.specs.Prelude.{map}
use Rattle.qws_base.specs.Windows.{has_slot}
use Rattle.qws_base.specs.Stacking.{with_origin}
use Rattle.qws_base.specs.Refusals.{off_screen}
use Rattle.qws_base.specs.Arranged.{IsWindow}
use Rattle.qws_base.specs.declared.commands.Command.TheVariants.{Move}
use Rattle.window_arrangements.specs.Arrangements.{ArrangementView}
use Rattle.window_core.specs.Planning.{size_of, state_of}
use Rattle.window_core.proofs.WindowLemmas.{found_slot, found_has}
use Rattle.window_core.proofs.MailPlanLemmas.{if_refused}
use Rattle.window_core.proofs.WindowPlanLemmas.{own_causes, if_own, if_not_own, found_own, cause_past, cause_there}
use Rattle.window_core.proofs.held.Held.plan_move.Goals as goal

pub returns-in-Some : goal.returns-in-Some
returns-in-Some c =
    let held = c.args.self.now in
    let command = Move c.args.slot c.args.origin in
    if_refused held c.args.client command c.in-Some.cause c.refused.result
    (cause_there (off_screen c.args.origin) (own_causes held c.args.client c.args.slot command) c.in-Some.cause (sym c.in-Some.ensures)) c.refused.ensures

pub with_origin-requires-clause-window : goal.with_origin-requires-clause-window
with_origin-requires-clause-window c =
    let w = c.in-Ok.window.now in
    ap (λ (v : ArrangementView). find (has_slot w.slot) v.windows) c.deref.ensures ∙ found_own c.args.slot (state_of c.args.self.now).windows w c.in-Ok.ensures.window

pub with_origin-requires-clause-fits : goal.with_origin-requires-clause-fits
with_origin-requires-clause-fits c = found_has IsWindow c.args.slot (state_of c.args.self.now).windows c.in-Ok.window.now c.requires.served.windows.each c.in-Ok.ensures.window

pub returns-in-Err : goal.returns-in-Err
returns-in-Err c =
    let held = c.args.self.now in
    let command = Move c.args.slot c.args.origin in
    if_not_own held c.args.client c.args.slot command c.in-Err.cause c.refused-in-Err.result
    (cause_past (off_screen c.args.origin) (own_causes held c.args.client c.args.slot command) (sym c.in_default.ensures)) c.in-Err.ensures.refusal c.refused-in-Err.ensures

pub returns-in_ok-after-in-Ok : goal.returns-in_ok-after-in-Ok
returns-in_ok-after-in-Ok c =
    let held = c.args.self.now in
    let w = c.in-Ok.window.now in
    let command = Move c.args.slot c.args.origin in
    let made : c.in_ok-after-in-Ok.after ≡ record { size = size_of held; windows = map (with_origin c.args.slot c.args.origin) (state_of held).windows } =
    c.in_ok-after-in-Ok.ensures
    ∙ ap (λ (v : ArrangementView). let a : ArrangementView = record { size = v.size; windows = map (with_origin w.slot c.args.origin) v.windows } in a) c.deref.ensures
    ∙ ap (λ s. let a : ArrangementView = record { size = size_of held; windows = map (with_origin s c.args.origin) (state_of held).windows } in a) (found_slot c.args.slot (state_of held).windows w c.in-Ok.ensures.window) in
    if_own held c.args.client c.args.slot command c.in_ok-after-in-Ok.after None c.rearranged.result
    (cause_past (off_screen c.args.origin) (own_causes held c.args.client c.args.slot command) (sym c.in_default.ensures)) c.in-Ok.ensures.refusal made refl refl c.rearranged.ensures

use Rattle.std.proofs.Common.{◌≡◌, ◌∙◌, ◌<◌, None, ◌∷◌, sym, ap, subst, refl}
use Rattle.std.specs.Prelude.{map}
use Rattle.qws_base.specs.Stacking.{with_region}
use Rattle.qws_base.specs.Refusals.{off_screen, bad_region}
use Rattle.qws_base.specs.Arranged.{IsWindow}
use Rattle.qws_base.specs.declared.commands.Command.TheVariants.{Region}
use Rattle.window_arrangements.specs.Arrangements.{ArrangementView}
use Rattle.window_core.specs.Planning.{size_of, state_of}
use Rattle.window_core.proofs.WindowLemmas.{found_slot, found_has}
use Rattle.window_core.proofs.MailPlanLemmas.{if_refused}
use Rattle.window_core.proofs.WindowPlanLemmas.{own_causes, if_own, if_not_own, cause_past, cause_there}
use Rattle.window_core.proofs.held.Held.plan_region.Goals as goal

pub returns-in-Some : goal.returns-in-Some
returns-in-Some c =
    let held = c.args.self.now in
    let command = Region c.args.slot c.args.origin c.args.rects.now in
    if_refused held c.args.client command c.in-Some.cause c.refused.result
    (cause_there (off_screen c.args.origin) (bad_region c.args.rects.now ∷ own_causes held c.args.client c.args.slot command) c.in-Some.cause (sym c.in-Some.ensures)) c.refused.ensures

pub returns-in-Some-bad_place : goal.returns-in-Some-bad_place
returns-in-Some-bad_place c =
    let held = c.args.self.now in
    let command = Region c.args.slot c.args.origin c.args.rects.now in
    let causes = own_causes held c.args.client c.args.slot command in
    if_refused held c.args.client command c.in-Some-bad_place.cause c.refused-in-Some-bad_place.result
    (cause_past (off_screen c.args.origin) (bad_region c.args.rects.now ∷ causes) (sym c.in_default.ensures)
    ∙ cause_there (bad_region c.args.rects.now) causes c.in-Some-bad_place.cause (sym (c.in-Some-bad_place.ensures ∙ ap bad_region c.as_slice.ensures)))
    c.refused-in-Some-bad_place.ensures

pub with_region-requires-clause-slot : goal.with_region-requires-clause-slot
with_region-requires-clause-slot c =
    let ws = (state_of c.args.self.now).windows in
    let w = c.in-Ok.field-0.now in
    subst (λ s. s < 32) (found_slot c.args.slot ws w c.in-Ok.ensures.window) (found_has IsWindow c.args.slot ws w c.requires.served.windows.each c.in-Ok.ensures.window).slot

pub returns-in-Err : goal.returns-in-Err
returns-in-Err c =
    let held = c.args.self.now in
    let command = Region c.args.slot c.args.origin c.args.rects.now in
    let causes = own_causes held c.args.client c.args.slot command in
    if_not_own held c.args.client c.args.slot command c.in-Err.cause c.refused-in-Err.result
    (cause_past (off_screen c.args.origin) (bad_region c.args.rects.now ∷ causes) (sym c.in_default.ensures)
    ∙ cause_past (bad_region c.args.rects.now) causes (sym (c.in_default-bad_place.ensures ∙ ap bad_region c.as_slice.ensures)))
    c.in-Err.ensures.refusal c.refused-in-Err.ensures

pub returns-in_ok-after-in-Ok : goal.returns-in_ok-after-in-Ok
returns-in_ok-after-in-Ok c =
    let held = c.args.self.now in
    let command = Region c.args.slot c.args.origin c.args.rects.now in
    let causes = own_causes held c.args.client c.args.slot command in
    let made : c.in_ok-after-in-Ok.after ≡ record { size = size_of held; windows = map (with_region c.args.slot c.args.origin c.args.rects.now) (state_of held).windows } =
    c.in_ok-after-in-Ok.ensures
    ∙ ap (λ (v : ArrangementView). let a : ArrangementView = record { size = v.size; windows = map (with_region c.args.slot c.args.origin c.args.rects.now) v.windows } in a) c.deref.ensures in
    if_own held c.args.client c.args.slot command c.in_ok-after-in-Ok.after None c.rearranged.result
    (cause_past (off_screen c.args.origin) (bad_region c.args.rects.now ∷ causes) (sym c.in_default.ensures)
    ∙ cause_past (bad_region c.args.rects.now) causes (sym (c.in_default-bad_place.ensures ∙ ap bad_region c.as_slice.ensures)))
    c.in-Ok.ensures.refusal made refl refl c.rearranged.ensures

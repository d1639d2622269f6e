use Rattle.std.proofs.Common.{◌≡◌, ◌∙◌, None, Some, ap, sym, refl, subst}
use Rattle.std.specs.Prelude.{IsSome}
use Rattle.qws_base.specs.Mail.{oldest_event}
use Rattle.qws_base.specs.Steps.{found_or}
use Rattle.qws_base.specs.declared.commands.Command.TheVariants.{Take}
use Rattle.qws_base.specs.declared.replies.Reply.TheVariants.{Event}
use Rattle.qws_base.specs.declared.replies.Refusal.TheVariants.{Empty}
use Rattle.window_core.specs.declared.changes.MailChange.TheVariants as change
use Rattle.window_core.proofs.MailPlanLemmas.{if_kept, if_refused}
use Rattle.window_core.proofs.held.Held.plan_take.Goals as goal

pub returns-in-None : goal.returns-in-None
returns-in-None c =
    let held = c.args.self.now in
    let none : None ≡ oldest_event held.channels c.args.client = c.in-None.ensures in
    if_refused held c.args.client Take Empty c.refused.result (ap (found_or Empty (λ event. Event event)) (sym none)) c.refused.ensures

pub returns-in_ok-event-in-Some : goal.returns-in_ok-event-in-Some
returns-in_ok-event-in-Some c =
    let held = c.args.self.now in
    let some : Some c.in-Some.event.now ≡ oldest_event held.channels c.args.client = c.in-Some.ensures in
    let copy : c.in_ok-event-in-Some.event ≡ c.in-Some.event.now = c.in_ok-event-in-Some.ensures in
    if_kept held c.args.client Take (Event c.in_ok-event-in-Some.event) (change.Take c.args.client) c.kept.result
    (record {
      other = refl;
      windows = refl;
      slots = c.requires.served.slots;
      answered = ap (found_or Empty (λ event. Event event)) (sym some) ∙ ap (λ event. Event event) (sym copy);
      accepted = refl;
      can = (c.requires.client, subst IsSome some refl);
      mail = refl;
    })
    refl c.kept.ensures

use Rattle.std.proofs.Common.{◌≡◌, ◌∙◌, ap, sym, refl, subst}
use Rattle.std.specs.Option.{option_map_or}
use Rattle.qws_base.specs.Mail.{mail_joined}
use Rattle.qws_base.specs.declared.commands.Command.TheVariants.{Join}
use Rattle.qws_base.specs.declared.replies.Reply.TheVariants.{Refused, Done}
use Rattle.qcop_channels.specs.Stops.{refusal_of, join_refusal}
use Rattle.qcop_channels.specs.Prepared.{CanJoin, JoinView}
use Rattle.window_core.specs.declared.changes.MailChange.TheVariants as change
use Rattle.window_core.proofs.MailPlanLemmas.{if_kept, if_stopped}
use Rattle.window_core.proofs.held.Held.plan_join.Goals as goal

pub returns-in-Err : goal.returns-in-Err
returns-in-Err c =
    let held = c.args.self.now in
    let refusal : refusal_of c.in-Err.stop ≡ join_refusal held.channels c.args.client c.args.channel.now =
    c.in-Err.ensures.refusal ∙ ap (join_refusal held.channels c.args.client) c.as_slice.ensures in
    if_stopped held c.args.client (Join c.args.channel.now) (refusal_of c.in-Err.stop) Done c.stopped.result
    (ap (λ cause. option_map_or (λ r. Refused r) cause Done) (sym refusal))
    c.stopped.ensures

pub returns-in-Ok : goal.returns-in-Ok
returns-in-Ok c =
    let held = c.args.self.now in
    let mail = held.channels in
    let made : c.in-Ok.join ≡ record { client = c.args.client; channel = c.args.channel.now } =
    c.in-Ok.ensures.join ∙ ap (λ name. record { client = c.args.client; channel = name }) c.as_slice.ensures in
    let can = subst (CanJoin mail) made c.in-Ok.ensures.can in
    if_kept held c.args.client (Join c.args.channel.now) Done (change.Join c.in-Ok.join) c.kept.result
    (record {
      other = refl;
      windows = refl;
      slots = c.requires.served.slots;
      answered = ap (λ cause. option_map_or (λ r. Refused r) cause Done) can;
      accepted = refl;
      can = c.in-Ok.ensures.can;
      mail = ap (λ (j : JoinView). mail_joined mail j.client j.channel) made;
    })
    refl c.kept.ensures

use Rattle.std.proofs.Common.{◌≡◌, ◌∙◌, length, ap, sym, refl, subst}
use Rattle.std.specs.Option.{option_map_or}
use Rattle.qws_base.specs.Mail.{mail_sent, receiver_count, subscribers_of}
use Rattle.qws_base.specs.declared.commands.Command.TheVariants.{Send}
use Rattle.qws_base.specs.declared.replies.Reply.TheVariants.{Refused, Sent}
use Rattle.qcop_channels.specs.Stops.{refusal_of, send_refusal}
use Rattle.qcop_channels.specs.Prepared.{CanSend, SendView}
use Rattle.window_core.specs.declared.changes.MailChange.TheVariants as change
use Rattle.window_core.proofs.MailPlanLemmas.{if_kept, if_stopped}
use Rattle.window_core.proofs.held.Held.plan_send.Goals as goal

pub returns-in-Err : goal.returns-in-Err
returns-in-Err c =
    let held = c.args.self.now in
    let mail = held.channels in
    let refusal : refusal_of c.in-Err.stop ≡ send_refusal mail c.args.channel.now c.args.message.now c.args.payload.now =
    c.in-Err.ensures.refusal
    ∙ ap (λ name. send_refusal mail name c.as_slice-2.result.now c.as_slice-3.result.now) c.as_slice.ensures
    ∙ ap (λ text. send_refusal mail c.args.channel.now text c.as_slice-3.result.now) c.as_slice-2.ensures
    ∙ ap (send_refusal mail c.args.channel.now c.args.message.now) c.as_slice-3.ensures in
    let sent = Sent (receiver_count mail c.args.channel.now) in
    if_stopped held c.args.client (Send c.args.channel.now c.args.message.now c.args.payload.now) (refusal_of c.in-Err.stop) sent c.stopped.result
    (ap (λ cause. option_map_or (λ r. Refused r) cause sent) (sym refusal))
    c.stopped.ensures

pub returns-in-Ok : goal.returns-in-Ok
returns-in-Ok c =
    let held = c.args.self.now in
    let mail = held.channels in
    let command = Send c.args.channel.now c.args.message.now c.args.payload.now in
    let made : c.in-Ok.send ≡ record { from = c.args.client; channel = c.args.channel.now; message = c.args.message.now; payload = c.args.payload.now; receivers = subscribers_of mail.channels c.args.channel.now } =
    c.in-Ok.ensures.send
    ∙ ap (λ name. record { from = c.args.client; channel = name; message = c.as_slice-2.result.now; payload = c.as_slice-3.result.now; receivers = subscribers_of mail.channels name }) c.as_slice.ensures
    ∙ ap (λ text. record { from = c.args.client; channel = c.args.channel.now; message = text; payload = c.as_slice-3.result.now; receivers = subscribers_of mail.channels c.args.channel.now }) c.as_slice-2.ensures
    ∙ ap (λ load. record { from = c.args.client; channel = c.args.channel.now; message = c.args.message.now; payload = load; receivers = subscribers_of mail.channels c.args.channel.now }) c.as_slice-3.ensures in
    let can = subst (CanSend mail) made c.in-Ok.ensures.can in
    if_kept held c.args.client command (Sent c.to-to.result) (change.Send c.in-Ok.send) c.kept.result
    (record {
      other = refl;
      windows = refl;
      slots = c.requires.served.slots;
      answered = ap (λ cause. option_map_or (λ r. Refused r) cause (Sent (receiver_count mail c.args.channel.now))) can.accepted
          ∙ ap Sent (sym (c.to-to.ensures ∙ ap (λ (s : SendView). length s.receivers) made));
      accepted = refl;
      can = c.in-Ok.ensures.can;
      mail = ap (λ (s : SendView). mail_sent mail s.from s.channel s.message s.payload) made;
    })
    refl c.kept.ensures

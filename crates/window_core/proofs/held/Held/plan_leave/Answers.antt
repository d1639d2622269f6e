use Rattle.std.proofs.Common.{◌≡◌, ◌∙◌, true, false, not, None, [], ◌∷◌, ap, sym, refl}
use Rattle.std.specs.Option.{option_map_or}
use Rattle.qws_base.specs.Mail.{mail_left, is_subscriber}
use Rattle.qws_base.specs.Refusals.{when, first_of}
use Rattle.qws_base.specs.declared.commands.Command.TheVariants.{Leave}
use Rattle.qws_base.specs.declared.replies.Reply.TheVariants.{Refused, Done}
use Rattle.qws_base.specs.declared.replies.Refusal.TheVariants.{NotJoined}
use Rattle.qcop_channels.specs.Stops.{leave_refusal}
use Rattle.window_core.specs.declared.changes.MailChange.TheVariants as change
use Rattle.window_core.proofs.MailPlanLemmas.{if_kept, if_refused}
use Rattle.window_core.proofs.held.Held.plan_leave.Goals as goal

pub returns-then-not-is_subscriber : goal.returns-then-not-is_subscriber
returns-then-not-is_subscriber c =
    let held = c.args.self.now in
    let joined : is_subscriber held.channels.channels c.args.client c.args.channel.now ≡ false =
    sym (c.is_subscriber.ensures ∙ ap (is_subscriber held.channels.channels c.args.client) c.as_slice.ensures) ∙ c.if-not-is_subscriber.true in
    if_refused held c.args.client (Leave c.args.channel.now) NotJoined c.refused.result
    (ap (λ b. option_map_or (λ r. Refused r) (first_of (when (not b) NotJoined ∷ [])) Done) joined) c.refused.ensures

pub returns : goal.returns
returns c =
    let held = c.args.self.now in
    let copy : c.in_ok-channel.channel ≡ c.args.channel.now = c.in_ok-channel.ensures in
    let joined : is_subscriber held.channels.channels c.args.client c.args.channel.now ≡ true =
    sym (c.is_subscriber.ensures ∙ ap (is_subscriber held.channels.channels c.args.client) c.as_slice.ensures) ∙ c.if-not-is_subscriber.false in
    let can : leave_refusal held.channels c.args.client c.args.channel.now ≡ None = ap (λ b. first_of (when (not b) NotJoined ∷ [])) joined in
    if_kept held c.args.client (Leave c.args.channel.now) Done (change.Leave c.args.client c.in_ok-channel.channel) c.kept.result
    (record {
      other = refl;
      windows = refl;
      slots = c.requires.served.slots;
      answered = ap (λ cause. option_map_or (λ r. Refused r) cause Done) can;
      accepted = refl;
      can = (c.requires.client, ap (leave_refusal held.channels c.args.client) copy ∙ can);
      mail = ap (mail_left held.channels c.args.client) copy;
    })
    refl c.kept.ensures

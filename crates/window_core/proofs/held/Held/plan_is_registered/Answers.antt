use Rattle.std.proofs.Common.{◌∙◌, ap, sym, refl}
use Rattle.qws_base.specs.Mail.{is_known}
use Rattle.qws_base.specs.declared.commands.Command.TheVariants.{IsRegistered}
use Rattle.qws_base.specs.declared.replies.Reply.TheVariants.{Registered}
use Rattle.window_core.specs.declared.changes.MailChange.TheVariants as change
use Rattle.window_core.proofs.MailPlanLemmas.{if_kept}
use Rattle.window_core.proofs.held.Held.plan_is_registered.Goals as goal

pub returns : goal.returns
returns c =
    let held = c.args.self.now in
    if_kept held c.args.client (IsRegistered c.args.channel.now) (Registered c.is_registered-yes.result) change.Nothing c.kept.result
    (record {
      other = refl;
      windows = refl;
      slots = c.requires.slots;
      answered = ap Registered (sym (c.is_registered-yes.ensures ∙ ap (is_known held.channels.channels) c.as_slice.ensures));
      accepted = refl;
      can = tt;
      mail = refl;
    })
    refl c.kept.ensures

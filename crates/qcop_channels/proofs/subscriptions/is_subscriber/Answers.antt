use Rattle.std.proofs.Common.{sym, ap, ◌∙◌}
use Rattle.qws_base.specs.Mail.{is_among}
use Rattle.qcop_channels.proofs.ChannelLemmas.{found_known, not_found_known}
use Rattle.qcop_channels.proofs.subscriptions.is_subscriber.Goals as goal

pub returns-in-Some : goal.returns-in-Some
returns-in-Some c = c.holds.ensures ∙ ap (is_among c.args.client) (sym (found_known c.args.known.now.entries c.args.name.now _ (sym c.in-Some.ensures.value)).1)

pub returns-in-None : goal.returns-in-None
returns-in-None c = ap (is_among c.args.client) (sym (not_found_known c.args.known.now.entries c.args.name.now (sym c.in-None.ensures.value)).1)

use Rattle.std.proofs.Common.{sym, ◌∙◌}
use Rattle.qcop_channels.proofs.ChannelLemmas.{found_known, not_found_known}
use Rattle.qcop_channels.proofs.subscriptions.subscribers.Goals as goal

pub returns-in-Some-clause-some : goal.returns-in-Some-clause-some
returns-in-Some-clause-some c = (found_known c.args.known.now.entries c.args.name.now _ (sym c.in-Some.ensures.value)).0

pub returns-in-Some-clause-value : goal.returns-in-Some-clause-value
returns-in-Some-clause-value c = c.as_slice.ensures.value ∙ sym (found_known c.args.known.now.entries c.args.name.now _ (sym c.in-Some.ensures.value)).1

pub returns-in-None-clause-none : goal.returns-in-None-clause-none
returns-in-None-clause-none c = (not_found_known c.args.known.now.entries c.args.name.now (sym c.in-None.ensures.value)).0

use Rattle.std.proofs.Common.{◌∙◌}
use Rattle.qcop_channels.proofs.ChannelLemmas.{is_known-lookup}
use Rattle.qcop_channels.proofs.subscriptions.is_known.Goals as goal

pub returns : goal.returns
returns c = c.contains_key.ensures ∙ is_known-lookup c.args.known.now.entries c.args.name.now

use Rattle.std.proofs.Common.{length, sym, ap, arith}
use Rattle.qcop_channels.proofs.DistinctLemmas.{length-AreDistinctBelow}
use Rattle.qcop_channels.proofs.ChannelLemmas.{subscribers_of-unknown}
use Rattle.qcop_channels.proofs.channels.Channels.subscriber_count.Goals as goal

pub overflow_cast-result : goal.overflow_cast-result
overflow_cast-result c = omega (arith, length-AreDistinctBelow 16 _ c.in-Some.ensures.clients)

pub returns-in-None : goal.returns-in-None
returns-in-None c = rw (← c.self.view_is) (ap length (sym (subscribers_of-unknown _ c.args.channel.now c.in-None.ensures.none)))

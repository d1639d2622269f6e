use Rattle.std.proofs.Common.{arith}
use Rattle.qcop_channels.proofs.DistinctLemmas.{length-AreDistinctBelow}
use Rattle.qcop_channels.proofs.sending.PreparedSend.to.Goals as goal

pub overflow_cast-result : goal.overflow_cast-result
overflow_cast-result c = omega (arith, length-AreDistinctBelow 16 c.self.inside.receivers.items c.self.invariant.0)

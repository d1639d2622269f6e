use Rattle.std.proofs.Common.{arith}
use Rattle.qcop_channels.proofs.BoxLemmas.{room_of_all}
use Rattle.qcop_channels.proofs.mailboxes.Mailbox.copy.Goals as goal

pub copy_of-requires : goal.copy_of-requires
copy_of-requires c =
    let long = c.self.inside.events.ok.0 in
    omega (arith, room_of_all c.self.inside.events.items c.self.inside.messages _ c.self.invariant)

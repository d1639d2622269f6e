use Rattle.std.proofs.Common.{arith}
use Rattle.qcop_channels.proofs.BoxLemmas.{IsMailbox-put, room_to_put}
use Rattle.qcop_channels.proofs.mailboxes.Mailbox.put.Goals as goal

pub push_back_reserved-requires : goal.push_back_reserved-requires
push_back_reserved-requires c =
    let long = c.self.inside.events.ok.0 in
    omega (arith, room_to_put c.self.inside.events.items c.self.inside.messages _ c.self.invariant (rw c.self.view_is c.requires.room))

pub invariant_of-self : goal.invariant_of-self
invariant_of-self c =
    rw (c.push_back_reserved.ensures.items, c.push_back_reserved.ensures.capacity)
    (IsMailbox-put c.self.inside.events.items c.self.inside.messages _ c.args.message c.self.invariant c.requires.message (rw c.self.view_is c.requires.room))

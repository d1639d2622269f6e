use Rattle.std.proofs.Common.{◌≡◌, ◌∷◌, [], false, length-append, arith}
use Rattle.qws_base.specs.Mail.{is_among}
use Rattle.qcop_channels.proofs.DistinctLemmas.{AreDistinctBelow-push, length-AreDistinctBelow}
use Rattle.qcop_channels.proofs.subscribers.Subscribers.add.Goals as goal

pub push_reserved-requires : goal.push_reserved-requires
push_reserved-requires c =
    let new : is_among c.args.client c.self.inside.clients.items ≡ false = rw c.self.view_is c.requires.new in
    let more = AreDistinctBelow-push 16 c.self.inside.clients.items c.args.client c.self.invariant.0 c.requires.client new in
    let long = c.self.inside.clients.ok.0 in
    let wide = c.self.invariant.1 in
    omega (arith, length-AreDistinctBelow 16 _ more, length-append c.self.inside.clients.items (c.args.client ∷ []))

pub invariant_of-self : goal.invariant_of-self
invariant_of-self c =
    let new : is_among c.args.client c.self.inside.clients.items ≡ false = rw c.self.view_is c.requires.new in
    rw (c.push_reserved.ensures.items, c.push_reserved.ensures.capacity)
    (AreDistinctBelow-push 16 c.self.inside.clients.items c.args.client c.self.invariant.0 c.requires.client new, c.self.invariant.1)

use Rattle.std.proofs.Common.{◌≡◌, false, sym, ap, ◌∙◌, arith}
use Rattle.std.specs.List.{list_any}
use Rattle.qws_base.specs.Mail.{is_region_of}
use Rattle.qcop_channels.proofs.BoxLemmas.{IsMailbox-tell, room_to_tell}
use Rattle.qcop_channels.proofs.mailboxes.Mailbox.tell.Goals as goal

pub push_back_reserved-requires : goal.push_back_reserved-requires
push_back_reserved-requires c =
    let new : list_any (is_region_of c.args.slot) c.self.inside.events.items ≡ false = ap (list_any (is_region_of c.args.slot)) c.self.view_is ∙ sym c.tells.ensures ∙ c.if-not-tells.true in
    let long = c.self.inside.events.ok.0 in
    omega (arith, room_to_tell c.self.inside.events.items c.self.inside.messages _ c.args.slot c.self.invariant c.requires new)

pub invariant_of-self : goal.invariant_of-self
invariant_of-self c =
    let new : list_any (is_region_of c.args.slot) c.self.inside.events.items ≡ false = ap (list_any (is_region_of c.args.slot)) c.self.view_is ∙ sym c.tells.ensures ∙ c.if-not-tells.true in
    rw (c.push_back_reserved.ensures.items, c.push_back_reserved.ensures.capacity)
    (IsMailbox-tell c.self.inside.events.items c.self.inside.messages _ c.args.slot c.self.invariant c.requires new)

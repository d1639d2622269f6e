use Rattle.std.proofs.Common.{◌≡◌, not, filter, ◌∙◌, ap, rules}
use Rattle.std.proofs.lemmas.Fn.{filter_same}
use Rattle.qws_base.specs.Mail.{is_region_of}
use Rattle.qcop_channels.proofs.BoxLemmas.{IsMailbox-forget}
use Rattle.qcop_channels.proofs.mailboxes.Mailbox.forget.Goals as goal

pub invariant_of-self : goal.invariant_of-self
invariant_of-self c =
    let kept : c.retain.new.self.items ≡ filter (λ e. not (is_region_of c.args.slot e)) c.self.inside.events.items =
    filter_same _ (λ e. not (is_region_of c.args.slot e)) _ (λ x b f called. search rules) _ _ c.retain.ensures.filtered in
    rw (kept, c.retain.ensures.capacity) (IsMailbox-forget c.args.slot c.self.inside.events.items c.self.inside.messages _ c.self.invariant)

pub returns : goal.returns
returns c =
    filter_same _ (λ e. not (is_region_of c.args.slot e)) _ (λ x b f called. search rules) _ _ c.retain.ensures.filtered
    ∙ ap (filter (λ e. not (is_region_of c.args.slot e))) c.self.view_is

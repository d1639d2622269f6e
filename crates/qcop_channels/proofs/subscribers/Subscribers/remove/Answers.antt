use Rattle.std.proofs.Common.{◌≡◌, ◌==◌, not, filter, ap, ◌∙◌, rules}
use Rattle.std.proofs.lemmas.Fn.{filter_same}
use Rattle.qcop_channels.proofs.DistinctLemmas.{AreDistinctBelow-filter}
use Rattle.qcop_channels.proofs.subscribers.Subscribers.remove.Goals as goal

pub invariant_of-self : goal.invariant_of-self
invariant_of-self c =
    let kept : c.retain.new.self.items ≡ filter (λ x. not (x == c.args.client)) c.self.inside.clients.items =
    filter_same _ (λ x. not (x == c.args.client)) _ (λ x b f called. search rules) _ _ c.retain.ensures.filtered in
    rw (kept, c.retain.ensures.capacity) (AreDistinctBelow-filter 16 (λ x. not (x == c.args.client)) c.self.inside.clients.items c.self.invariant.0, c.self.invariant.1)

pub returns : goal.returns
returns c =
    filter_same _ (λ x. not (x == c.args.client)) _ (λ x b f called. search rules) _ _ c.retain.ensures.filtered
    ∙ ap (filter (λ x. not (x == c.args.client))) c.self.view_is

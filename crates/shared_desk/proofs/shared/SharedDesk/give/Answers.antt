use Rattle.std.proofs.Common.{rules, sym, ap, subst, ◌∙◌, None, Some}
use Rattle.shared_desk.specs.Desks.{SameDesk}
use Rattle.shared_desk.proofs.Keeping.{gives_desk, filled}
use Rattle.shared_desk.proofs.shared.SharedDesk.give.Goals as goal

pub store-requires : goal.store-requires
store-requires c =
    let full = filled c.lease.inside.seat.me c.exchange.new.seat.me None (Some c.args.desk) c.lease.invariant c.exchange.ensures.3 in (
      c.exchange.ensures.0 ∙ ap (λ l. l.table) c.lease.view_is ∙ c.requires.of.0 ∙ sym (ap (λ s. s.table) c.self.view_is),
      search rules,
      gives_desk _ _ _ _ c.args.desk c.self.invariant.1 full.0 (subst (λ x. SameDesk c.args.desk x) (sym (ap (λ p. p.desk) full.1 ∙ ap (λ l. l.desk) c.lease.view_is)) c.requires.same),
    )

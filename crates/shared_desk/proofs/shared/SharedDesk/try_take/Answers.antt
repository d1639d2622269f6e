use Rattle.std.proofs.Common.{rules, sym, ap, ◌∙◌, Some}
use Rattle.shared_desk.proofs.Keeping.{takes_desk, slot_first}
use Rattle.shared_desk.proofs.shared.SharedDesk.try_take.Goals as goal

pub compare_exchange-found-requires : goal.compare_exchange-found-requires
compare_exchange-found-requires c = (
  ap (λ l. l.table) c.lease.view_is ∙ c.requires.of.0 ∙ sym (ap (λ s. s.table) c.self.view_is),
  search rules,
  takes_desk _ _ _ _ c.lease.invariant,
)

pub exchange-requires : goal.exchange-requires
exchange-requires c = (
  c.compare_exchange-found.ensures.0 ∙ ap (λ l. l.table) c.lease.view_is ∙ c.requires.of.0 ∙ sym (ap (λ s. s.table) c.self.view_is),
  let took = c.compare_exchange-found.ensures.2.0 c.if-found-ne0.false in (Some took.desk, slot_first _ c.lease.inside.seat.me.0.callers _ took.now),
)

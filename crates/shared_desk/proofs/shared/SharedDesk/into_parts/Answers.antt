use Rattle.std.proofs.Common.{sym, ap, subst, ◌∙◌}
use mathlib.Core.Option.{some-injective}
use Rattle.shared_desk.specs.Desks.{SameDesk}
use Rattle.shared_desk.proofs.Dealing.{ends_with}
use Rattle.shared_desk.proofs.Looping.{some_same}
use Rattle.shared_desk.proofs.shared.SharedDesk.into_parts.Goals as goal

pub unreachable-requires : goal.unreachable-requires
unreachable-requires c =
    let last = ends_with _ _ _ _ c.gather-seat.result.0.me c.args.self c.args.callers.items c.gather-seat.ensures.all c.requires.all (ap (λ s. s.desk) c.self.view_is) (ap (λ s. s.callers) c.self.view_is) c.close_with-closed.ensures.values.2 in
    c.in_default.not-Some last.0 (some-injective _ _ (sym c.take.ensures.value ∙ last.1))

pub returns-clause-desk : goal.returns-clause-desk
returns-clause-desk c =
    let last = ends_with _ _ _ _ c.gather-seat.result.0.me c.args.self c.args.callers.items c.gather-seat.ensures.all c.requires.all (ap (λ s. s.desk) c.self.view_is) (ap (λ s. s.callers) c.self.view_is) c.close_with-closed.ensures.values.2 in
    subst (λ d. SameDesk d c.args.self.desk) (some_same c.take.result _ _ (some-injective _ _ (sym c.take.ensures.value ∙ last.1)) c.in-Some.is) last.2

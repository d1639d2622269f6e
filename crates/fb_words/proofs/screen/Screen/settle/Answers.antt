use Rattle.std.proofs.Common.{rules, ◌≡◌, sym, ap, ◌∙◌, subst, length}
use Rattle.fb_words.proofs.Serving.{settles_seat}
use Rattle.fb_words.specs.Views.{HeadView}
use Rattle.fb_words.specs.Steps.{AllHere, Knows, arranged}
use Rattle.fb_words.proofs.screen.Screen.settle.Goals as goal

pub load-found-requires : goal.load-found-requires
load-found-requires c = (
  ap (λ h. h.screen.table) c.head.view_is ∙ ap (λ s. s.table) (c.requires.screen ∙ sym c.self.view_is),
  search rules,
  settles_seat _ _ _ _ c.head.invariant.0 c.head.invariant.2 (ap (λ h. h.server.mode) c.head.view_is ∙ c.requires.closing),
)

pub returns-then-found-ne-CLOSED_GATE-clause-free : goal.returns-then-found-ne-CLOSED_GATE-clause-free
returns-then-found-ne-CLOSED_GATE-clause-free c here = let P : HeadView → Type 0 = λ h. AllHere h.server h.sitting → c.load-found.result ≡ 4294967296 in
    c.if-found-ne-CLOSED_GATE.true (subst P c.head.view_is c.load-found.ensures.2.1 here)

pub returns-then-found-ne-CLOSED_GATE-clause-known : goal.returns-then-found-ne-CLOSED_GATE-clause-known
returns-then-found-ne-CLOSED_GATE-clause-known c = let P : HeadView → Type 0 = λ h. AllHere h.server h.sitting → Knows h.server (arranged (length h.server.limits) h.sitting) in subst P c.head.view_is c.load-found.ensures.2.2

pub returns-clause-known : goal.returns-clause-known
returns-clause-known c = let P : HeadView → Type 0 = λ h. AllHere h.server h.sitting → Knows h.server (arranged (length h.server.limits) h.sitting) in subst P c.head.view_is c.load-found.ensures.2.2

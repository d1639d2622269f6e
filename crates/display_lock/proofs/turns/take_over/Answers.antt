use Rattle.std.proofs.Common.{length, subst}
use Rattle.fb_words.specs.Views.{HeadView}
use Rattle.fb_words.specs.Steps.{AllHere, Knows, arranged}
use Rattle.display_lock.proofs.turns.take_over.Goals as goal

pub returns-in-Err-clause-free : goal.returns-in-Err-clause-free
returns-in-Err-clause-free c here = let P : HeadView → Type 0 = λ h. AllHere h.server h.sitting → ⊥ in subst P c.close.ensures c.in-Err.ensures.free here

pub returns-in-Ok-clause-known : goal.returns-in-Ok-clause-known
returns-in-Ok-clause-known c here = let P : HeadView → Type 0 = λ h. AllHere h.server h.sitting → Knows h.server (arranged (length h.server.limits) h.sitting) in
    subst P c.close.ensures c.in-Ok.ensures.known here

pub returns-in-Err-clause-known : goal.returns-in-Err-clause-known
returns-in-Err-clause-known c here = let P : HeadView → Type 0 = λ h. AllHere h.server h.sitting → Knows h.server (arranged (length h.server.limits) h.sitting) in
    subst P c.close.ensures c.in-Err.ensures.known here

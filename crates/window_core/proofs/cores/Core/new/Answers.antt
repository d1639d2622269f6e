-- The opening state is served.
use Rattle.std.proofs.Common.{[], ◌∷◌, refl, ◌∙◌}
use Rattle.window_core.specs.declared.held.Held.{Held}
use Rattle.window_core.proofs.ServedLemmas.{IsOpening, opening_served, opening_view}
use Rattle.window_core.proofs.cores.Core.new.Goals as goal

-- what is held
abbrev held_of : goal.In_ok-new-3 → Held
held_of c = record {
  arrangement = c.in_ok-new.field-0;
  revisions = 1 ∷ 1 ∷ 1 ∷ 1 ∷ 1 ∷ 1 ∷ 1 ∷ 1 ∷ 1 ∷ 1 ∷ 1 ∷ 1 ∷ 1 ∷ 1 ∷ 1 ∷ 1 ∷ 1 ∷ 1 ∷ 1 ∷ 1 ∷ 1 ∷ 1 ∷ 1 ∷ 1 ∷ 1 ∷ 1 ∷ 1 ∷ 1 ∷ 1 ∷ 1 ∷ 1 ∷ 1 ∷ [];
  cursor = c.in_ok-new-2.field-0;
  channels = c.in_ok-new-3.field-0;
}

opens : (c : goal.In_ok-new-3) → IsOpening c.args.size (held_of c)
opens c = record {
  arrangement = c.in_ok-new.ensures.ok ∙ c.in_ok-arrangement.ensures;
  cursor = c.in_ok-new-2.ensures.ok ∙ c.hidden-cursor.ensures;
  mail = c.in_ok-new-3.ensures;
  revisions = refl;
}

pub invariant_of-result : goal.invariant_of-result
invariant_of-result c = opening_served c.args.size (held_of c) c.w.ensures.is_screen (opens c)

pub returns : goal.returns
returns c = opening_view c.args.size c.args.backdrop (held_of c) (opens c)

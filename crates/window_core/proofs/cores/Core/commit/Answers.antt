-- What a committed plan leaves is served, since each step of a client leaves it so.
use Rattle.std.proofs.Common.{refl, sym, ap, ◌∙◌, subst}
use Rattle.std.specs.Prelude.{All}
use Rattle.window_arrangements.specs.Arrangements.{ArrangementView}
use Rattle.window_core.specs.CoreViews.{CoreView, IsServed}
use Rattle.window_core.specs.declared.held.Held.{Held}
use Rattle.window_core.proofs.ServedLemmas.{IsOwned, planned_served}
use Rattle.window_core.proofs.cores.Core.commit.Goals as goal

pub carry-requires-clause-owners_after : goal.carry-requires-clause-owners_after
carry-requires-clause-owners_after c =
    let parts = c.into_parts-command.result.1 in
    let after : Held = record c.self.inside.held { arrangement = parts.arrangement; cursor = parts.cursor; revisions = parts.revisions } in
    let served = planned_served c.args.self.now c.args.plan after parts c.into_parts-command.result.0 c.into_parts-command.ensures.parts c.requires c.into_parts-command.ensures.client
    (subst (λ (v : CoreView). IsServed v.size v.state) c.self.view_is c.self.invariant) refl refl refl in
    subst (All (IsOwned 16)) (sym (c.windows-2.ensures ∙ ap (λ (a : ArrangementView). a.windows) c.deref-2.ensures)) served.owners

pub invariant_of-self : goal.invariant_of-self
invariant_of-self c =
    let parts = c.into_parts-command.result.1 in
    let after : Held = record { arrangement = parts.arrangement; revisions = parts.revisions; cursor = parts.cursor; channels = c.carry.new.channels } in
    planned_served c.args.self.now c.args.plan after parts c.into_parts-command.result.0 c.into_parts-command.ensures.parts c.requires c.into_parts-command.ensures.client
    (subst (λ (v : CoreView). IsServed v.size v.state) c.self.view_is c.self.invariant) refl refl refl

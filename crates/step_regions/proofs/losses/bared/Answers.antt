use Rattle.std.proofs.Common.{◌≡◌, ℕ, ◌<◌, ◌⊎◌, ⊎_elim, not, ◌&&◌, List, Some, sym, ap, ◌∙◌, subst}
use Rattle.std.specs.Prelude.{All, is_none}
use Rattle.std.proofs.lemmas.Bool.{and_parts}
use Rattle.qws_base.specs.Sides.{Sides}
use Rattle.qws_base.specs.Points.{is_on_screen}
use Rattle.qws_base.specs.Windows.{owner_at}
use Rattle.qws_base.specs.Steps.{is_changed}
use Rattle.qws_base.specs.Arranged.{IsArranged}
use Rattle.qws_base.specs.declared.points.Point.{Point}
use Rattle.qws_base.specs.declared.windows.WindowView.{WindowView}
use Rattle.step_regions.specs.Bared.{of_slots}
use Rattle.step_regions.proofs.Lost.{below_all, lost, few_of, all_within}
use Rattle.step_regions.proofs.losses.bared.Goals as goal

pub all_of-requires : goal.all_of-requires
all_of-requires c = subst (λ (l : List ℕ). All (λ slot. slot < 32) l) (sym (c.risen-slots.ensures ∙ c.requires.risen)) (below_all (is_changed c.args.core.now.size c.args.core.now.state.windows c.args.plan.now.windows))

pub none_of-requires : goal.none_of-requires
none_of-requires c = subst (λ (l : List ℕ). All (λ slot. slot < 32) l) (sym (c.risen-slots.ensures ∙ c.requires.risen)) (below_all (is_changed c.args.core.now.size c.args.core.now.state.windows c.args.plan.now.windows))

pub returns-clause-points : goal.returns-clause-points
returns-clause-points c = λ p.
    let size : Sides = c.args.core.now.size in
    let before : List WindowView = c.args.core.now.state.windows in
    let after : List WindowView = c.args.plan.now.windows in
    let slots = c.risen-slots.ensures ∙ c.requires.risen in
    let now = c.windows-windows.ensures.served.windows in
    let then : IsArranged size after = subst (IsArranged size) (sym c.requires.windows) (c.windows_stay_arranged.ensures.stays size c.args.core.now.state c.args.plan.now.client c.args.plan.now.command now) in
    let few = λ (windows : List WindowView) (p : Point) (slot : ℕ) (which : (windows ≡ before) ⊎ (windows ≡ after)) (is : owner_at windows p ≡ Some slot).
    ⊎_elim (λ (e : windows ≡ before). few_of before now.each p slot (ap (λ w. owner_at w p) (sym e) ∙ is)) (λ (e : windows ≡ after). few_of after then.each p slot (ap (λ w. owner_at w p) (sym e) ∙ is)) which in
    c.in_ok-lost.ensures p
    ∙ ap (λ b. b && not (of_slots c.args.plan.now.size after c.risen-slots.result.now p)) (c.in_ok-before.ensures p)
    ∙ ap (λ (z : Sides). of_slots size before c.risen-slots.result.now p && not (of_slots z after c.risen-slots.result.now p)) c.requires.screen
    ∙ ap (λ (l : List ℕ). of_slots size before l p && not (of_slots size after l p)) slots
    ∙ lost size before after few p

pub returns-clause-within : goal.returns-clause-within
returns-clause-within c = all_within c.args.core.now.size c.in_ok-lost.lost c.rects-rects.ensures.canonical.some_pixels
    (λ p h. (and_parts (is_on_screen c.args.core.now.size p) (not (is_none (owner_at c.args.core.now.state.windows p)) && is_none (owner_at c.args.plan.now.windows p)) (sym (returns-clause-points c p) ∙ h)).0)

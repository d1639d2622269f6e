use Rattle.band_regions.proofs.Lemmas.{refl, sym, ◌∙◌, subst, arith, All, take_all, All-more, IsShiftable, false≢true, no_rect}
use Rattle.std.proofs.lemmas.Int.{to_z-of_z}
use Rattle.band_regions.proofs.regions.Region.can_shift.Goals as goal

pub loop-rect-preserved : goal.loop-rect-preserved
loop-rect-preserved c = All-more (IsShiftable _ _) _ _ no_rect (omega arith) c.loop-rect.invariant (c.is_in_range.ensures.0 c.if-not-is_in_range.false)

pub returns : goal.returns
returns c = (λ _. subst (All (IsShiftable c.args.dx c.args.dy)) (take_all _ _ (omega arith) ∙ c.deref-rect-items.ensures.value ∙ c.self.view_is) (rw (to_z-of_z _ _ c.ranges.dx, to_z-of_z _ _ c.ranges.dy) at c.loop-rect.invariant), λ _. refl)

pub returns-then-not-is_in_range : goal.returns-then-not-is_in_range
returns-then-not-is_in_range c = (
  λ e. absurd (false≢true e),
  λ h. let all = subst (All (IsShiftable c.args.dx c.args.dy)) (sym (c.deref-rect-items.ensures.value ∙ c.self.view_is)) h in
      sym c.if-not-is_in_range.true ∙ (rw (to_z-of_z _ _ c.ranges.dx, to_z-of_z _ _ c.ranges.dy) at c.is_in_range.ensures.1) (all c.loop-rect.rect-index no_rect (omega arith)),
)

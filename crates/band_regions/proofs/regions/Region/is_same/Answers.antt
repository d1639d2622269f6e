use Rattle.band_regions.proofs.Lemmas.{ap, any_holds, same_lists}
use Rattle.band_regions.proofs.regions.Region.is_same.Goals as goal

pub returns-clause-points : goal.returns-clause-points
returns-clause-points c = let same = rw (c.deref.ensures.value, c.deref-2.ensures.value, c.self.view_is, c.other.view_is) at c.is_same_list.ensures in (
  λ e p. ap (λ xs. any_holds xs p) (same.0 e),
  λ h. same.1 (same_lists _ _ (rw c.self.view_is at c.self.invariant.canonical) (rw c.other.view_is at c.other.invariant.canonical) h),
)

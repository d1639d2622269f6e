use Rattle.band_regions.proofs.Lemmas.{length, sym, ap, ◌∙◌, nat_eq, any_holds, no_more, empty_of}
use Rattle.band_regions.proofs.regions.Region.is_empty.Goals as goal

pub returns-clause-points : goal.returns-clause-points
returns-clause-points c = let answer = rw c.self.inside.rects.ok.0 at c.is_empty.ensures in (
  λ e p. ap (λ xs. any_holds xs p) (sym c.self.view_is ∙ no_more _ (sym e ∙ answer)),
  λ none. answer ∙ ap (λ xs. nat_eq (length xs) 0) (empty_of _ c.self.invariant.canonical (rw (← c.self.view_is) at none)),
)

use Rattle.step_regions.proofs.moves.no_pixels.Goals as goal

pub returns : goal.returns
returns c = c.is_empty-none.ensures.list.0 (c.is_empty-none.ensures.points.1 (λ p. c.in_ok-region.ensures.points p))

use Rattle.band_regions.proofs.Lemmas.{sym, ◌∙◌, arith, map_more, no_rect, moved_region}
use Rattle.std.proofs.lemmas.Int.{to_z-of_z}
use Rattle.band_regions.proofs.regions.Region.shift.Goals as goal

pub loop-rect-preserved : goal.loop-rect-preserved
loop-rect-preserved c = c.in_ok-push.ensures.items ∙ rw (c.loop-rect.invariant, c.moved.ensures) (sym (map_more _ _ _ no_rect (omega arith)))

pub invariant_of-result : goal.invariant_of-result
invariant_of-result c = let done = rw (to_z-of_z _ _ c.ranges.dx, to_z-of_z _ _ c.ranges.dy) at c.loop-rect.invariant in (moved_region _ _ _ _ _ _ done (omega arith) c.deref-rect-items.ensures.value c.self.view_is c.self.invariant c.requires).0

pub returns : goal.returns
returns c = let done = rw (to_z-of_z _ _ c.ranges.dx, to_z-of_z _ _ c.ranges.dy) at c.loop-rect.invariant in (moved_region _ _ _ _ _ _ done (omega arith) c.deref-rect-items.ensures.value c.self.view_is c.self.invariant c.requires).1

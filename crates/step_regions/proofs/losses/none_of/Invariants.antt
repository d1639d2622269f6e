use Rattle.std.proofs.Common.{◌≡◌, ◌&&◌, not, take}
use Rattle.qws_base.specs.Points.{any_holds}
use Rattle.qws_base.specs.declared.points.Point.{Point}
use Rattle.step_regions.specs.Bared.{of_slots}
use Rattle.step_regions.proofs.losses.none_of.Given as goal

abbrev pub invariant-loop-slot : goal.invariant-loop-slot
invariant-loop-slot l = (p : Point) → any_holds l.rest p ≡ (any_holds l.fn.region p && not (of_slots l.plan.size l.plan.windows (take l.slot-index l.slots) p))

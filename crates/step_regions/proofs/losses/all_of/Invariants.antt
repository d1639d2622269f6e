use Rattle.std.proofs.Common.{◌≡◌, take}
use Rattle.qws_base.specs.Points.{any_holds}
use Rattle.qws_base.specs.declared.points.Point.{Point}
use Rattle.step_regions.specs.Bared.{of_slots}
use Rattle.step_regions.proofs.losses.all_of.Given as goal

abbrev pub invariant-loop-slot : goal.invariant-loop-slot
invariant-loop-slot l = (p : Point) → any_holds l.region p ≡ of_slots l.core.size l.core.state.windows (take l.slot-index l.slots) p

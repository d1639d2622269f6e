use Rattle.std.proofs.Common.{◌≡◌, ◌<◌, ℕ, length}
use Rattle.qws_base.specs.Regions.{IsRegionOf}
use Rattle.qws_base.specs.Windows.{allocated_points}
use Rattle.region_alloc.specs.Allocations.{of_slot, windows_asking}
use Rattle.region_alloc.proofs.allocations.reallocate.Given as goal

abbrev pub invariant-loop-slot : goal.invariant-loop-slot
invariant-loop-slot l = record {
  count : length l.regions.items ≡ l.slot;
  each : (slot : ℕ) → slot < l.slot → IsRegionOf (of_slot l.regions.items slot) (allocated_points l.fn.screen (windows_asking l.requests l.stack) slot);
}

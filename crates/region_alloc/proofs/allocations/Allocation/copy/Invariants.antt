use Rattle.std.proofs.Common.{◌≡◌, take}
use Rattle.region_alloc.proofs.allocations.Allocation.copy.Given as goal

abbrev pub invariant-loop-region : goal.invariant-loop-region
invariant-loop-region l = l.regions.items ≡ take l.region-index l.region-items

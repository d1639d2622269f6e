use Rattle.region_alloc.proofs.AllocationLaws.{still_allocation}
use Rattle.region_alloc.proofs.laws.allocation_stays.Goals as goal

pub returns : goal.returns
returns c = still_allocation

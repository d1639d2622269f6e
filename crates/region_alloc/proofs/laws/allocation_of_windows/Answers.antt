use Rattle.region_alloc.proofs.AllocationLaws.{of_windows}
use Rattle.region_alloc.proofs.laws.allocation_of_windows.Goals as goal

pub returns : goal.returns
returns c = of_windows

use Rattle.region_alloc.proofs.AllocationLaws.{same_regions}
use Rattle.region_alloc.proofs.laws.one_allocation.Goals as goal

pub returns : goal.returns
returns c = same_regions c.one_list_for_a_set.ensures.lists

use Rattle.region_alloc.proofs.AllocationLaws.{shared_out_law}
use Rattle.region_alloc.proofs.laws.pixels_are_shared_out.Goals as goal

pub returns : goal.returns
returns c = shared_out_law

use Rattle.region_alloc.proofs.AllocationLaws.{owners_law, outside_law}
use Rattle.region_alloc.proofs.laws.others_keep_their_pixels.Goals as goal

pub returns-clause-owners : goal.returns-clause-owners
returns-clause-owners c = owners_law

pub returns-clause-regions : goal.returns-clause-regions
returns-clause-regions c = outside_law

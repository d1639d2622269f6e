use Rattle.region_alloc.specs.Allocations.{windows_asking}
use Rattle.region_alloc.proofs.AllocationLaws.{shared_screen}
use Rattle.region_alloc.proofs.allocations.allocate.Goals as goal

pub returns : goal.returns
returns c = shared_screen c.args.screen (windows_asking c.args.requests.now c.args.stack.now) c.in_ok-ground.ground c.in_ok-share_out.field-0.items c.in_ok-ground.ensures c.in_ok-share_out.ensures

use Rattle.region_alloc.specs.Allocations.{windows_asking}
use Rattle.region_alloc.specs.Sharing.{IsSharedUpTo}
use Rattle.region_alloc.proofs.sharing.share_out.Given as goal

abbrev pub invariant-loop-k : goal.invariant-loop-k
invariant-loop-k l = IsSharedUpTo l.fn.ground (windows_asking l.requests l.stack) l.k l.ground l.parts.items

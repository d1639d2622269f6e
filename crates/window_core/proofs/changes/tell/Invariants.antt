use Rattle.std.proofs.Common.{◌≡◌, take}
use Rattle.std.specs.List.{fold}
use Rattle.qws_base.specs.Steps.{owner_told}
use Rattle.window_core.proofs.changes.tell.Given as goal

-- the owners of the slots so far are told
abbrev pub invariant-loop-slot : goal.invariant-loop-slot
invariant-loop-slot l = l.channels ≡ fold (owner_told l.windows) l.fn.channels (take l.slot-index l.told)

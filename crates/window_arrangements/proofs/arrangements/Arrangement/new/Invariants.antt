use Rattle.std.proofs.Common.{◌≤◌, ◌-◌, length}
use Rattle.window_arrangements.proofs.arrangements.Arrangement.new.Given as goal

-- no more requests than slots
abbrev pub invariant-loop-requests : goal.invariant-loop-requests
invariant-loop-requests l = length l.requests.items ≤ 32

abbrev pub decreases-loop-requests : goal.decreases-loop-requests
decreases-loop-requests l = 32 - length l.requests.items

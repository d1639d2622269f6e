use Rattle.std.proofs.Common.{◌≡◌, length}
use Rattle.qws_rows_core.proofs.arrangements.no_requests.Given as goal

abbrev pub invariant-loop-slot : goal.invariant-loop-slot
invariant-loop-slot l = length l.requests.items ≡ l._slot

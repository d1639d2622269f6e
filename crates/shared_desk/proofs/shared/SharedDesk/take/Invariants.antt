use Rattle.std.proofs.Common.{◌≡◌}
use Rattle.shared_desk.proofs.shared.SharedDesk.take.Given as goal

abbrev pub invariant-loop : goal.invariant-loop
invariant-loop g l = l.lease ≡ l.initial.lease

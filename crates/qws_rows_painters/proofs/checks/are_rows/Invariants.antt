use Rattle.qws_rows_painters.specs.Checks.{StandBefore}
use Rattle.qws_rows_painters.proofs.checks.are_rows.Given as goal

abbrev pub invariant-loop-slot : goal.invariant-loop-slot
invariant-loop-slot l = StandBefore l.size l.admitted l.words l.slot l.past

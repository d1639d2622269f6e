use Rattle.qws_rows_painters.specs.Checks.{StandInRow}
use Rattle.qws_rows_painters.proofs.checks.past_row.Given as goal

abbrev pub invariant-loop-j : goal.invariant-loop-j
invariant-loop-j l = StandInRow l.size l.words l.slot l.j l.fn.from l.past

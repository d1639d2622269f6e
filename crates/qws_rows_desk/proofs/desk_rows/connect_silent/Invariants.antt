use Rattle.std.proofs.Common.{◌≡◌}
use Rattle.qws_rows_desk.proofs.desk_rows.connect_silent.Given as goal

abbrev pub invariant-loop-client : goal.invariant-loop-client
invariant-loop-client l = l.desk.screen ≡ l.screen

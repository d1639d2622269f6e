use Rattle.std.proofs.Common.{◌≡◌}
use Rattle.qws_rows_painters.proofs.Served.{cells_so_far}
use Rattle.qws_rows_painters.proofs.turns.cursor_in.Given as goal

abbrev pub invariant-loop-k : goal.invariant-loop-k
invariant-loop-k l = l.cells.items ≡ cells_so_far l.words l.w l.k

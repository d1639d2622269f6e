use Rattle.qws_rows_painters.specs.Checks.{AreCells}
use Rattle.qws_rows_painters.proofs.checks.are_cells.Given as goal

abbrev pub invariant-loop-index : goal.invariant-loop-index
invariant-loop-index l = AreCells l.words l.index

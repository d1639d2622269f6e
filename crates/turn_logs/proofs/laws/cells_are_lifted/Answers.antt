use Rattle.turn_logs.proofs.Lifting.{cells_law}
use Rattle.turn_logs.proofs.laws.cells_are_lifted.Goals as goal

pub returns : goal.returns
returns c = cells_law

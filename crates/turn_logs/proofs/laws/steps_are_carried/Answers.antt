use Rattle.turn_logs.proofs.Law.{step_law}
use Rattle.turn_logs.proofs.laws.steps_are_carried.Goals as goal

pub returns : goal.returns
returns c = step_law

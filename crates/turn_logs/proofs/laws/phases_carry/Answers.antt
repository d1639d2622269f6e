use Rattle.turn_logs.proofs.Phases.{phase_law}
use Rattle.turn_logs.proofs.laws.phases_carry.Goals as goal

pub returns : goal.returns
returns c = phase_law

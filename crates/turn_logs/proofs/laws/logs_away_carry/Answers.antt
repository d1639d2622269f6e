use Rattle.turn_logs.proofs.Phases.{away_law}
use Rattle.turn_logs.proofs.laws.logs_away_carry.Goals as goal

pub returns : goal.returns
returns c = away_law

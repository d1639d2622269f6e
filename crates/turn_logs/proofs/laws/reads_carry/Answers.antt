use Rattle.turn_logs.proofs.Publishing.{still_law}
use Rattle.turn_logs.proofs.laws.reads_carry.Goals as goal

pub returns : goal.returns
returns c = still_law

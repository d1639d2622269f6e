use Rattle.turn_logs.proofs.Publishing.{follow_law}
use Rattle.turn_logs.proofs.laws.tables_follow_each_other.Goals as goal

pub returns : goal.returns
returns c = follow_law

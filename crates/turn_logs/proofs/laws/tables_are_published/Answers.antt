use Rattle.turn_logs.proofs.Publishing.{publish_law}
use Rattle.turn_logs.proofs.laws.tables_are_published.Goals as goal

pub returns : goal.returns
returns c = publish_law

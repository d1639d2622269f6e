use Rattle.table_turns.proofs.Spelled.{written_law}
use Rattle.table_turns.proofs.laws.tables_are_written.Goals as goal

pub returns : goal.returns
returns c = written_law

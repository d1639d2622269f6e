use Rattle.region_table.proofs.Telling.{published_law}
use Rattle.region_table.proofs.laws.table_tells_windows.Goals as goal

pub returns : goal.returns
returns c = published_law

use Rattle.region_table.proofs.Reading.{spelling_law}
use Rattle.region_table.proofs.laws.table_of_its_words.Goals as goal

pub returns : goal.returns
returns c = spelling_law

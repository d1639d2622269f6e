use Rattle.region_table.proofs.Openings.{opening_law}
use Rattle.region_table.proofs.laws.opening_table_of_words.Goals as goal

pub returns : goal.returns
returns c = opening_law

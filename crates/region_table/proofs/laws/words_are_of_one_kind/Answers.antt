use Rattle.region_table.proofs.Words.{kind_law}
use Rattle.region_table.proofs.laws.words_are_of_one_kind.Goals as goal

pub returns : goal.returns
returns c = kind_law

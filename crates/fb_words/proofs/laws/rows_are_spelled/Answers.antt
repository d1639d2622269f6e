use Rattle.fb_words.proofs.Found.{looked_law}
use Rattle.fb_words.proofs.laws.rows_are_spelled.Goals as goal

pub returns : goal.returns
returns c = looked_law

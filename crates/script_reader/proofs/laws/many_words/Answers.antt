use Rattle.script_reader.proofs.Bounds.{many_words}
use Rattle.script_reader.proofs.laws.many_words.Goals as goal

pub returns : goal.returns
returns c = many_words

use Rattle.script_grammar.proofs.FirstBad.{no_front}
use Rattle.script_grammar.proofs.laws.no_front.Goals as goal

pub returns : goal.returns
returns c = no_front

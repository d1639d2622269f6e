use Rattle.script_grammar.proofs.FirstBad.{first_bad}
use Rattle.script_grammar.proofs.laws.first_bad.Goals as goal

pub returns : goal.returns
returns c = first_bad

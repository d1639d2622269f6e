use Rattle.script_grammar.proofs.FirstBad.{nothing_behind}
use Rattle.script_grammar.proofs.laws.nothing_behind.Goals as goal

pub returns : goal.returns
returns c = nothing_behind

use Rattle.script_grammar.proofs.Law.{few}
use Rattle.script_grammar.proofs.laws.keeps_limits.Goals as goal

pub returns : goal.returns
returns c = few

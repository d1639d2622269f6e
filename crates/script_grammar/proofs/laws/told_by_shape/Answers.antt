use Rattle.script_grammar.proofs.Forms.{told}
use Rattle.script_grammar.proofs.laws.told_by_shape.Goals as goal

pub returns : goal.returns
returns c = told

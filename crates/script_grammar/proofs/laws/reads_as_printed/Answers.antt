use Rattle.script_grammar.proofs.Law.{law}
use Rattle.script_grammar.proofs.laws.reads_as_printed.Goals as goal

pub returns : goal.returns
returns c = law

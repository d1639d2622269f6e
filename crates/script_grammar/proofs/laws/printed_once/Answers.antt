use Rattle.script_grammar.proofs.Law.{once}
use Rattle.script_grammar.proofs.laws.printed_once.Goals as goal

pub returns : goal.returns
returns c = once

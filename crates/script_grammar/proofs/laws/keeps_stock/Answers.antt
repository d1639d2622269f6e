use Rattle.script_grammar.proofs.Law.{stock}
use Rattle.script_grammar.proofs.laws.keeps_stock.Goals as goal

pub returns : goal.returns
returns c = stock

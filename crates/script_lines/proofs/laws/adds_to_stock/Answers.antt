use Rattle.script_lines.proofs.Adding.{adds_to_stock}
use Rattle.script_lines.proofs.laws.adds_to_stock.Goals as goal

pub returns : goal.returns
returns c = adds_to_stock

use Rattle.script_lines.proofs.Adding.{refuses_line}
use Rattle.script_lines.proofs.laws.refuses_line.Goals as goal

pub returns : goal.returns
returns c = refuses_line

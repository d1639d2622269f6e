use Rattle.script_names.proofs.Latest.{stands_for_none}
use Rattle.script_names.proofs.laws.stands_for_none.Goals as goal

pub returns : goal.returns
returns c = stands_for_none

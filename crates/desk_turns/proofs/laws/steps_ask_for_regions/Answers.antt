use Rattle.desk_turns.proofs.Asking.{asked_law}
use Rattle.desk_turns.proofs.laws.steps_ask_for_regions.Goals as goal

pub returns : goal.returns
returns c = asked_law

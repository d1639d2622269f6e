use Rattle.turn_logs.proofs.Law.{paint_law}
use Rattle.turn_logs.proofs.laws.paints_are_carried.Goals as goal

pub returns : goal.returns
returns c = paint_law

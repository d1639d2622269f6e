use Rattle.turn_logs.proofs.Stamping.{stamp_law}
use Rattle.turn_logs.proofs.laws.stamps_alone_change.Goals as goal

pub returns : goal.returns
returns c = stamp_law

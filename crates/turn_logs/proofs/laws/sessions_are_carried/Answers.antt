use Rattle.turn_logs.proofs.Sessions.{session_law}
use Rattle.turn_logs.proofs.laws.sessions_are_carried.Goals as goal

pub returns : goal.returns
returns c = session_law c.refused_stays.ensures c.windows_stay_arranged.ensures

use Rattle.turn_logs.proofs.Sessions.{picture_law}
use Rattle.turn_logs.proofs.laws.pictures_are_shown.Goals as goal

pub returns : goal.returns
returns c = picture_law c.windows_stay_arranged.ensures

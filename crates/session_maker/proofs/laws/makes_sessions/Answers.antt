use Rattle.session_maker.proofs.Session.{session_made}
use Rattle.session_maker.proofs.laws.makes_sessions.Goals as goal

pub returns : goal.returns
returns c = session_made

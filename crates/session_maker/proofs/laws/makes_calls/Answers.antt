use Rattle.session_maker.proofs.Session.{calls_made}
use Rattle.session_maker.proofs.laws.makes_calls.Goals as goal

pub returns : goal.returns
returns c = calls_made

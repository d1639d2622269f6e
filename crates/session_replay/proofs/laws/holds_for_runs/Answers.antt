use Rattle.session_replay.proofs.Judged.{held, holds}
use Rattle.session_replay.proofs.laws.holds_for_runs.Goals as goal

pub returns : goal.returns
returns c = λ file long. (held c.args.script.now file c.clients-clients.ensures.session long, holds c.args.script.now file c.clients-clients.ensures.session)

use Rattle.session_replay.proofs.Judged.{run_is_named}
use Rattle.session_replay.proofs.laws.runs_are_named.Goals as goal

pub returns : goal.returns
returns c = λ h run. run_is_named c.args.script.now h c.clients-clients.ensures.session run

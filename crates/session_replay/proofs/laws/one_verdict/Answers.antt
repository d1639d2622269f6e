use Rattle.session_replay.proofs.Judged.{one}
use Rattle.session_replay.proofs.laws.one_verdict.Goals as goal

pub returns : goal.returns
returns c = one c.args.script.now

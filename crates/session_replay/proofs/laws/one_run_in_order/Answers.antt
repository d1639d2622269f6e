use Rattle.session_replay.proofs.OneRun.{line_order}
use Rattle.session_replay.proofs.laws.one_run_in_order.Goals as goal

pub returns : goal.returns
returns c = line_order c.args.script.now c.clients-clients.ensures.session

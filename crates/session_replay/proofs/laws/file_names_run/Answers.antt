use Rattle.session_replay.specs.Runs.{in_order}
use Rattle.session_replay.proofs.LineOrder.{in_order_run}
use Rattle.session_replay.proofs.Judged.{run_is_named}
use Rattle.session_replay.proofs.laws.file_names_run.Goals as goal

pub returns : goal.returns
returns c =
    (run_is_named c.args.script.now (in_order c.args.script.now) c.clients-clients.ensures.session (in_order_run c.args.script.now c.clients-clients.ensures.session)).file

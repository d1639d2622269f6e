use Rattle.std.proofs.Common.{◌≡◌}
use Rattle.shared_painter.specs.Answers.{IsBack}
use Rattle.client_session.specs.Runs.{IsRunning}
use Rattle.client_session.proofs.runs.run_client.Given as goal

-- the first `k` calls are made, over the pass that was handed in
abbrev pub invariant-loop-k : goal.invariant-loop-k
invariant-loop-k g l = record {
  lease : l.caller.lease ≡ l.initial.caller.lease;
  back : IsBack l.initial.caller.pass l.caller.pass;
  running : IsRunning l.script l.caller.pass l.k l.space;
}

use Rattle.std.proofs.Common.{◌≡◌, ◌<◌, ℕ, length, [], get_or}
use Rattle.session_replay.specs.declared.callers.Caller.{Caller}
use Rattle.session_replay.specs.Steps.{IsCaller}
use Rattle.session_replay.proofs.replays.new_callers.Given as goal

abbrev pub invariant-loop-client : goal.invariant-loop-client
invariant-loop-client l = record {
  many : length l.callers.items ≡ l.client;
  each : (client : ℕ) (d : Caller) → client < l.client → IsCaller l.script [] client (get_or l.callers.items client d);
}

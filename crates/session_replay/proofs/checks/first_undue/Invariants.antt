use Rattle.std.proofs.Common.{ℕ, ◌<◌, take}
use Rattle.session_replay.specs.Files.{named_by}
use Rattle.session_replay.specs.Steps.{IsReplay}
use Rattle.session_replay.specs.Verdicts.{IsDue}
use Rattle.session_replay.proofs.checks.first_undue.Given as goal

abbrev pub invariant-loop-k : goal.invariant-loop-k
invariant-loop-k l = record {
  due : (j : ℕ) → j < l.k → IsDue l.script l.lines j;
  replay : IsReplay l.script (named_by l.script (take l.k l.lines)) l.replay;
}

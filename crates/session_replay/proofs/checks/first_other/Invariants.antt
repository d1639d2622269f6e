use Rattle.std.proofs.Common.{ℕ, ◌<◌}
use Rattle.session_replay.specs.Verdicts.{IsPixelOf}
use Rattle.session_replay.proofs.checks.first_other.Given as goal

abbrev pub invariant-loop-p : goal.invariant-loop-p
invariant-loop-p l = (q : ℕ) → q < l.p → IsPixelOf l.shown l.raster q

use Rattle.std.proofs.Common.{◌<◌, ◌≤◌, ℕ}
use Rattle.qws_base.specs.Refusals.{rects_needed}
use Rattle.window_arrangements.proofs.checks.too_complex.Given as goal

-- no slot so far needs more
abbrev pub invariant-loop-slot : goal.invariant-loop-slot
invariant-loop-slot l = (k : ℕ) → k < l.slot → rects_needed l.windows.size l.windows.windows k ≤ 256

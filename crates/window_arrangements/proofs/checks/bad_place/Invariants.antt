use Rattle.std.proofs.Common.{◌≡◌, ◌<◌, ℕ, false}
use Rattle.qws_base.specs.Refusals.{is_bad_place}
use Rattle.window_arrangements.proofs.checks.bad_place.Given as goal

-- no place so far is bad
abbrev pub invariant-loop-k : goal.invariant-loop-k
invariant-loop-k l = (j : ℕ) → j < l.k → is_bad_place l.rects j ≡ false

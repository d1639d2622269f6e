use Rattle.std.proofs.Common.{◌<◌, ◌-◌, ◌^◌, ℕ}
use Rattle.qws_base.specs.States.{revision_of}
use Rattle.qws_rows_shared.proofs.replays.can_rise.Given as goal

-- no revision so far is the last
abbrev pub invariant-loop-slot : goal.invariant-loop-slot
invariant-loop-slot l = (j : ℕ) → j < l.slot → revision_of l.core.state j < 2 ^ 64 - 1

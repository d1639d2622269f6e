use Rattle.std.proofs.Common.{◌≡◌, ℕ, ◌<◌, ◌⊎◌}
use Rattle.turn_logs.specs.Tables.{revision_in, SameRow}
use Rattle.qws_rows_painters.proofs.checks.follow.Given as goal

abbrev pub invariant-loop-slot : goal.invariant-loop-slot
invariant-loop-slot l = (s : ℕ) → s < l.slot → (revision_in l.before s < revision_in l.after s) ⊎ SameRow l.before l.after s

use Rattle.std.proofs.Common.{◌≡◌}
use Rattle.std.specs.List.{filter, range_with_len}
use Rattle.qws_base.specs.Steps.{is_changed}
use Rattle.window_arrangements.proofs.checks.changed_slots.Given as goal

-- the slots so far
abbrev pub invariant-loop-slot : goal.invariant-loop-slot
invariant-loop-slot l = l.changed.items ≡ filter (is_changed l.before.size l.before.windows l.after.windows) (range_with_len 0 l.slot)

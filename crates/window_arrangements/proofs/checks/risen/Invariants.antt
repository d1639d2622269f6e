use Rattle.std.proofs.Common.{◌≡◌, ◌<◌, ◌≤◌, ◌+◌, ℕ, length, get_or, if◌then◌else◌}
use Rattle.qws_base.specs.Steps.{is_changed}
use Rattle.window_arrangements.proofs.checks.risen.Given as goal

-- the slots so far have their new revision, and the later ones the old
abbrev pub invariant-loop-slot : goal.invariant-loop-slot
invariant-loop-slot l = record {
  long : length l.risen ≡ 32;
  done : (k : ℕ) → k < l.slot → get_or l.risen k 0 ≡ (if is_changed l.before.size l.before.windows l.after.windows k then get_or l.revisions k 0 + 1 else get_or l.revisions k 0);
  left : (k : ℕ) → l.slot ≤ k → get_or l.risen k 0 ≡ get_or l.revisions k 0;
}

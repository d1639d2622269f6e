use Rattle.std.proofs.Common.{◌≡◌, ◌+◌, ◌≤◌, replicate, None, vec_capacity}
use Rattle.client_session.proofs.clips.Clips.new.Given as goal

abbrev pub invariant-loop-slot : goal.invariant-loop-slot
invariant-loop-slot l = record {
  list : l.list.items ≡ replicate l._slot None;
  room : 33 ≤ vec_capacity l.list;
}

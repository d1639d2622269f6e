use Rattle.std.proofs.Common.{◌≡◌, ◌+◌, ◌≤◌, [], ◌++◌, length, vec_len, vec_capacity}
use Rattle.std.specs.Vec.Iter.{into_iter_items, into_iter_len}
use Rattle.shared_desk.specs.Rule.{knows}
use Rattle.shared_desk.specs.Together.{passes_of, rested}
use Rattle.shared_desk.proofs.shared.SharedDesk.gather.Given as goal

abbrev pub invariant-loop-caller : goal.invariant-loop-caller
invariant-loop-caller l = record {
  whole : l.yielded ++ into_iter_items l.caller-iterator ≡ into_iter_items l.initial.caller-iterator;
  left : into_iter_len l.caller-iterator ≡ length (into_iter_items l.caller-iterator);
  table : l.seat.table_id ≡ l.self.table;
  me : l.seat.me ≡ (knows (rested l.self.desk l.yielded), []);
  room : vec_len l.passes + length (into_iter_items l.caller-iterator) ≤ vec_capacity l.passes;
  passes : l.passes.items ≡ passes_of l.yielded;
}

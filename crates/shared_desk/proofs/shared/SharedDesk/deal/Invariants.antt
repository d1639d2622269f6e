use Rattle.std.proofs.Common.{◌≡◌, ℕ, ◌+◌, ◌≤◌, [], ◌++◌, length, vec_len, vec_capacity}
use Rattle.std.specs.Vec.Iter.{into_iter_items, into_iter_len}
use mathlib.Core.Option.{some}
use lib.ListN.{get_elem?}
use Rattle.shared_desk.specs.declared.callers.Caller.{Caller}
use Rattle.shared_desk.specs.Leases.{lease_of}
use Rattle.shared_desk.specs.Rule.{knows, parts}
use Rattle.shared_desk.specs.Together.{passes_of}
use Rattle.shared_desk.proofs.shared.SharedDesk.deal.Given as goal

abbrev pub invariant-loop-pass : goal.invariant-loop-pass
invariant-loop-pass l = record {
  whole : l.yielded ++ into_iter_items l.pass-iterator ≡ into_iter_items l.initial.pass-iterator;
  left : into_iter_len l.pass-iterator ≡ length (into_iter_items l.pass-iterator);
  table : l.seat.table_id ≡ l.self.table;
  me : l.seat.me ≡ (knows (parts l.self.desk (length l.yielded) (length (into_iter_items l.pass-iterator))), []);
  many : length l.callers.items ≡ length l.yielded;
  room : vec_len l.callers + length (into_iter_items l.pass-iterator) ≤ vec_capacity l.callers;
  each : (k : ℕ) (c : Caller) → get_elem? l.callers.items k ≡ some c → c.lease ≡ lease_of l.self k;
  passes : passes_of l.callers.items ≡ l.yielded;
}

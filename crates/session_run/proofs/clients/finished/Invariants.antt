use Rattle.std.proofs.Common.{◌≡◌, ◌+◌, ◌≤◌, ◌++◌, length, map, Ok, vec_len, vec_capacity}
use Rattle.std.specs.Vec.Iter.{into_iter_items, into_iter_len}
use Rattle.session_run.proofs.clients.finished.Given as goal

abbrev pub invariant-loop-answer : goal.invariant-loop-answer
invariant-loop-answer l = record {
  whole : l.yielded ++ into_iter_items l.answer-iterator ≡ into_iter_items l.initial.answer-iterator;
  left : into_iter_len l.answer-iterator ≡ length (into_iter_items l.answer-iterator);
  room : vec_len l.back + length (into_iter_items l.answer-iterator) ≤ vec_capacity l.back;
  all : l.yielded ≡ map (λ c. Ok c) l.back.items;
}

use Rattle.std.proofs.Common.{◌≡◌, ◌++◌, length, map}
use Rattle.std.specs.Vec.Iter.{into_iter_items, into_iter_len}
use Rattle.fb_words.specs.Views.{PassView}
use Rattle.fb_words.specs.Steps.{AllSit, AllIdle, AllHere, SitOnce}
use Rattle.server_desk.proofs.seating.seat_all.Given as goal

abbrev pub invariant-loop-pass : goal.invariant-loop-pass
invariant-loop-pass l = record {
  whole : l.yielded ++ into_iter_items l.pass-iterator ≡ into_iter_items l.initial.pass-iterator;
  left : into_iter_len l.pass-iterator ≡ length (into_iter_items l.pass-iterator);
  head : l.head ≡ record l.fn.head { sitting = map (λ (p : PassView). p.client) l.yielded };
  sits : AllSit l.head.server l.head.sitting;
  idle : AllIdle l.head.sitting;
  once : SitOnce l.head.sitting;
  here : length l.head.sitting ≡ length l.head.server.limits → AllHere l.head.server l.head.sitting;
}

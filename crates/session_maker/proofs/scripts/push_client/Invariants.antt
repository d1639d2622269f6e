use Rattle.std.proofs.Common.{ℕ, List}
use Rattle.session_maker.specs.Made.{Lines, with_calls}
use Rattle.session_maker.specs.Added.{AreAdded}
use Rattle.session_maker.proofs.scripts.push_client.Given as goal

abbrev pub invariant-loop-k : goal.invariant-loop-k
invariant-loop-k l = (head : List ℕ) (lines : Lines) → AreAdded head lines l.initial.out.items l.initial.draws.state → AreAdded head (with_calls l.client l.k lines) l.out.items l.draws.state

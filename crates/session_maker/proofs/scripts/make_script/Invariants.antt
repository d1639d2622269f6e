use Rattle.session_maker.specs.Made.{first_clients}
use Rattle.session_maker.specs.Added.{head_text, AreAdded}
use Rattle.session_maker.proofs.scripts.make_script.Given as goal

abbrev pub invariant-loop-client : goal.invariant-loop-client
invariant-loop-client l = AreAdded (head_text l.clients) (first_clients l.seed l.calls l.client) l.out.items l.draws.state

use Rattle.std.proofs.Common.{ap, subst, arith, length}
use Rattle.script_grammar.specs.Session.{Session}
use Rattle.script_grammar.specs.Limits.{IsSession}
use Rattle.script_reader.specs.Places.{calls_start}
use Rattle.session_script.specs.Stored.{said_by}
use Rattle.script_reader.proofs.Counts.{length-places}
use Rattle.session_script.proofs.Kept.{limits}
use Rattle.session_script.proofs.script.Script.calls.Goals as goal

pub returns-clause-calls : goal.returns-clause-calls
returns-clause-calls c =
    let s = c.self.inside in
    let said = said_by s.bytes.items in
    omega (arith, c.len.ensures, s.places.ok.0, ap length c.self.invariant.0.places, length-places (calls_start said) said.calls, ap (λ (v : Session). length v.calls) c.self.view_is)

pub returns-clause-session : goal.returns-clause-session
returns-clause-session c = subst IsSession c.self.view_is (limits c.self.invariant.0)

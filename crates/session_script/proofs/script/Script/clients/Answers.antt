use Rattle.std.proofs.Common.{◌∙◌, ap, subst}
use Rattle.script_grammar.specs.Session.{Session}
use Rattle.script_grammar.specs.Limits.{IsSession}
use Rattle.script_reader.specs.declared.heads.Head.{Head}
use Rattle.session_script.proofs.Kept.{limits}
use Rattle.session_script.proofs.script.Script.clients.Goals as goal

pub returns-clause-clients : goal.returns-clause-clients
returns-clause-clients c = ap (λ (h : Head). h.clients) c.self.invariant.0.head ∙ ap (λ (v : Session). v.clients) c.self.view_is

pub returns-clause-session : goal.returns-clause-session
returns-clause-session c = subst IsSession c.self.view_is (limits c.self.invariant.0)

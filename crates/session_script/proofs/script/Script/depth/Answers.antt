use Rattle.std.proofs.Common.{◌∙◌, ap}
use Rattle.script_grammar.specs.Session.{Session}
use Rattle.script_reader.specs.declared.heads.Head.{Head}
use Rattle.session_script.proofs.script.Script.depth.Goals as goal

pub returns : goal.returns
returns c = ap (λ (h : Head). h.depth) c.self.invariant.0.head ∙ ap (λ (v : Session). v.depth) c.self.view_is

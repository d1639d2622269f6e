use Rattle.std.proofs.Common.{◌∙◌, ap, rules}
use Rattle.script_grammar.specs.Printing.{script_text}
use Rattle.session_script.proofs.Kept.{printed}
use Rattle.session_script.proofs.script.Script.print.Goals as goal

pub returns : goal.returns
returns c = c.in_ok-to_vec.ensures.items_if_clones_equal (search rules) ∙ c.deref.ensures.value ∙ printed c.self.invariant.0 ∙ ap script_text c.self.view_is

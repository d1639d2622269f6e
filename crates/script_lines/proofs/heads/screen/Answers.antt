use Rattle.std.proofs.Common.{sym, ◌∙◌, true, false, arith}
use Rattle.script_words.specs.Judged.{joined}
use Rattle.script_lines.proofs.Forms.{screen_is}
use Rattle.script_lines.proofs.heads.screen.Goals as goal

pub returns-then-not-is : goal.returns-then-not-is
returns-then-not-is c = sym (screen_is c.args.words.now false (omega arith) (sym c.is.ensures ∙ c.if-not-is.true))

pub returns : goal.returns
returns c = c.join.ensures.value ∙ (λ i. joined (c.screen_size.ensures i) (c.colour.ensures i)) ∙ sym (screen_is c.args.words.now true (omega arith) (sym c.is.ensures ∙ c.if-not-is.false))

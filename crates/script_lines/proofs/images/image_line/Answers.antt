use Rattle.std.proofs.Common.{sym, ◌∙◌, arith}
use Rattle.script_lines.proofs.Forms.{image_is}
use Rattle.script_lines.proofs.images.image_line.Goals as goal

pub returns-in-Err : goal.returns-in-Err
returns-in-Err c = sym (image_is c.args.images.now c.args.words.now _ (omega arith) (sym c.is.ensures ∙ c.if-not-is.false) (sym c.in-Err.is ∙ c.in_ok-cause.ensures))

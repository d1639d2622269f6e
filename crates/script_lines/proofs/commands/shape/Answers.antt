use Rattle.std.proofs.Common.{arith}
use Rattle.script_lines.proofs.Forms.{made3, bad3, shape_is}
use Rattle.script_lines.proofs.commands.shape.Goals as goal

pub returns-in-Ok : goal.returns-in-Ok
returns-in-Ok c =
    let each = c.in-Ok.ensures.each in
    made3 _ (shape_is c.args.words.now (omega arith)) c.short.ensures c.short-2.ensures c.in_ok-cells.ensures each.0 each.1 each.2

pub returns-in-Err : goal.returns-in-Err
returns-in-Err c = bad3 _ (shape_is c.args.words.now (omega arith)) c.short.ensures c.short-2.ensures c.in_ok-cells.ensures c.join3.ensures.value c.in-Err.is

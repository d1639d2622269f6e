use Rattle.std.proofs.Common.{arith}
use Rattle.script_lines.proofs.Forms.{made4, bad4, blit_is}
use Rattle.script_lines.proofs.paints.blit.Goals as goal

pub returns-in-Ok : goal.returns-in-Ok
returns-in-Ok c =
    let each = c.in-Ok.ensures.each in
    made4 _ (blit_is c.args.images c.args.words.now (omega arith)) c.in_ok-window.ensures c.placed_point-at.ensures c.declared.ensures.value c.opacity.ensures each.0 each.1 each.2 each.3

pub returns-in-Err : goal.returns-in-Err
returns-in-Err c = bad4 _ (blit_is c.args.images c.args.words.now (omega arith)) c.in_ok-window.ensures c.placed_point-at.ensures c.declared.ensures.value c.opacity.ensures c.join4.ensures.value c.in-Err.is

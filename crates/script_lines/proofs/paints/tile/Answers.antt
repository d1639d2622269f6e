use Rattle.std.proofs.Common.{arith}
use Rattle.script_lines.proofs.Forms.{made3, bad3, tile_is}
use Rattle.script_lines.proofs.paints.tile.Goals as goal

pub returns-in-Ok : goal.returns-in-Ok
returns-in-Ok c =
    let each = c.in-Ok.ensures.each in
    made3 _ (tile_is c.args.images c.args.words.now (omega arith)) c.in_ok-window.ensures c.placed_rect.ensures c.declared.ensures.value each.0 each.1 each.2

pub returns-in-Err : goal.returns-in-Err
returns-in-Err c = bad3 _ (tile_is c.args.images c.args.words.now (omega arith)) c.in_ok-window.ensures c.placed_rect.ensures c.declared.ensures.value c.join3.ensures.value c.in-Err.is

use Rattle.std.proofs.Common.{arith}
use Rattle.script_lines.proofs.Forms.{made3, bad3, send_is}
use Rattle.script_lines.proofs.commands.send.Goals as goal

pub returns-in-Ok : goal.returns-in-Ok
returns-in-Ok c =
    let each = c.in-Ok.ensures.each in
    made3 _ (send_is c.args.words.now (omega arith)) c.in_ok-name.ensures c.in_ok-message.ensures c.in_ok-sent_bytes.ensures each.0 each.1 each.2

pub returns-in-Err : goal.returns-in-Err
returns-in-Err c = bad3 _ (send_is c.args.words.now (omega arith)) c.in_ok-name.ensures c.in_ok-message.ensures c.in_ok-sent_bytes.ensures c.join3.ensures.value c.in-Err.is

use Rattle.std.proofs.Common.{arith}
use Rattle.script_lines.proofs.Forms.{made2, bad2, call_line_is}
use Rattle.script_lines.proofs.calls.call_line.Goals as goal

pub returns-in-Ok : goal.returns-in-Ok
returns-in-Ok c =
    let each = c.in-Ok.ensures.both in
    made2 _ (call_line_is c.args.clients c.args.fonts.now c.args.images c.args.words.now (omega arith)) c.declared-client.ensures.value c.in_ok-call.ensures each.0 each.1

pub returns-in-Err : goal.returns-in-Err
returns-in-Err c = bad2 _ (call_line_is c.args.clients c.args.fonts.now c.args.images c.args.words.now (omega arith)) c.declared-client.ensures.value c.in_ok-call.ensures c.join.ensures.value c.in-Err.is

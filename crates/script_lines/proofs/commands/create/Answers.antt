use Rattle.std.proofs.Common.{arith}
use Rattle.script_lines.proofs.Forms.{made2, bad2, create_is}
use Rattle.script_lines.proofs.commands.create.Goals as goal

pub returns-in-Ok : goal.returns-in-Ok
returns-in-Ok c =
    let each = c.in-Ok.ensures.both in
    made2 _ (create_is c.args.words.now (omega arith)) c.in_ok-name.ensures c.short.ensures each.0 each.1

pub returns-in-Err : goal.returns-in-Err
returns-in-Err c = bad2 _ (create_is c.args.words.now (omega arith)) c.in_ok-name.ensures c.short.ensures c.join.ensures.value c.in-Err.is

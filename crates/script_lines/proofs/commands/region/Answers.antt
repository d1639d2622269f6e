use Rattle.std.proofs.Common.{arith}
use Rattle.script_lines.proofs.Forms.{made3, bad3, region_is, region_few}
use Rattle.script_lines.proofs.commands.region.Goals as goal

pub returns-in-Ok : goal.returns-in-Ok
returns-in-Ok c =
    let each = c.in-Ok.ensures.each in
    made3 _ (region_is c.args.words.now (omega arith)) c.in_ok-window.ensures c.signed_point.ensures c.in_ok-groups.ensures each.0 each.1 each.2

pub returns-in-Err : goal.returns-in-Err
returns-in-Err c = bad3 _ (region_is c.args.words.now (omega arith)) c.in_ok-window.ensures c.signed_point.ensures c.in_ok-groups.ensures c.join3.ensures.value c.in-Err.is

pub returns-in_default : goal.returns-in_default
returns-in_default c = region_few c.args.words.now (omega arith)

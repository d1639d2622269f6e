use Rattle.std.proofs.Common.{rules, subst, sym}
use Rattle.turn_logs.specs.Tables.{count_in}
use Rattle.qws_rows_painters.specs.Checks.{IsRowIn, StandInRow}
use Rattle.qws_rows_painters.proofs.Checked.{more_rows}
use Rattle.qws_rows_painters.proofs.checks.are_rows.Goals as goal

pub loop-slot-preserved : goal.loop-slot-preserved
loop-slot-preserved c =
    let row : IsRowIn c.args.admitted c.args.words.now c.loop-slot.slot = search rules in
    more_rows c.args.size c.args.admitted c.args.words.now c.loop-slot.slot c.loop-slot.past c.in-Some.next c.loop-slot.invariant row c.in-Some.ensures

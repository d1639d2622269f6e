use Rattle.std.proofs.Common.{rules, ◌≡◌, ◌+◌, ◌*◌, ◌<◌, ◌≤◌, ◌/◌, ◌%◌, sym, subst, arith}
use Rattle.region_table.specs.Packing.{unpacked}
use Rattle.turn_logs.specs.Tables.{count_in, rect_in, IsOnScreen}
use Rattle.qws_rows_painters.specs.Checks.{StandInRow}
use Rattle.qws_rows_painters.proofs.Checked.{more_in_row}
use Rattle.qws_rows_painters.proofs.checks.past_row.Goals as goal

pub loop-j-preserved : goal.loop-j-preserved
loop-j-preserved c =
    let on : IsOnScreen c.args.size c.unpack.result = search rules in
    more_in_row c.args.size c.args.words.now c.args.slot c.loop-j.j c.args.from c.loop-j.past c.loop-j.invariant
    (subst (IsOnScreen c.args.size) c.unpack.ensures.rect on) (let a = c.if-left-past.false in omega arith)

pub returns : goal.returns
returns c = let a = c.loop-j-test.false in let b = c.loop-j.auto.j-end in
    let z : c.loop-j.j ≡ count_in c.args.words.now c.args.slot = omega arith in
    subst (λ n. StandInRow c.args.size c.args.words.now c.args.slot n c.args.from c.loop-j.past) z c.loop-j.invariant

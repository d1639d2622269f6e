use Rattle.std.proofs.Common.{◌≡◌, ◌-◌, take, length, to_z, of_z, w32, arith}
use Rattle.std.proofs.lemmas.Int.{ints}
use Rattle.std.proofs.lemmas.List.{take_all}
use Rattle.gfx_lines.proofs.ColumnLemmas.{lines_start, lines_laid}
use Rattle.gfx_lines.proofs.polylines.fill_lines.Goals as goal

pub loop-i-init : goal.loop-i-init
loop-i-init c = lines_start c.args.points.now c.args.ink.now (to_z w32 (of_z w32 c.args.y)) (to_z w32 (of_z w32 c.args.x)) (length c.args.out.now) c.clear.new.out c.clear.ensures

pub loop-i-preserved : goal.loop-i-preserved
loop-i-preserved c =
    let i = c.loop-i.i in
    lines_laid c.args.points.now (i - 1) i _ _ c.args.ink.now (to_z w32 (of_z w32 c.args.y)) (to_z w32 (of_z w32 c.args.x)) (length c.args.out.now) c.loop-i.out c.lay_line.new.out (omega arith) c.loop-i-test.true
    c.loop-i.invariant c.lay_line.ensures

pub returns : goal.returns
returns c =
    let y : to_z w32 (of_z w32 c.args.y) ≡ c.args.y = omega (arith, ints) in
    let x : to_z w32 (of_z w32 c.args.x) ≡ c.args.x = omega (arith, ints) in
    let all : take c.loop-i.i c.args.points.now ≡ c.args.points.now = take_all c.loop-i.i c.args.points.now (omega arith) in
    rw (y, x, all) at c.loop-i.invariant

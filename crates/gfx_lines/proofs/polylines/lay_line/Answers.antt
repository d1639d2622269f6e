use Rattle.std.proofs.Common.{◌≡◌, length, to_z, of_z, w32, arith}
use Rattle.std.proofs.lemmas.Int.{ints}
use Rattle.gfx_lines.proofs.ColumnLemmas.{line_run, line_laid, line_off}
use Rattle.gfx_lines.proofs.polylines.lay_line.Goals as goal

pub returns-then-count-gt0 : goal.returns-then-count-gt0
returns-then-count-gt0 c =
    let y : to_z w32 (of_z w32 c.args.y) ≡ c.args.y = omega (arith, ints) in
    let x : to_z w32 (of_z w32 c.args.x) ≡ c.args.x = omega (arith, ints) in
    let left : to_z w32 (of_z w32 c.line_columns-left.result.0) ≡ c.line_columns-left.result.0 = omega (arith, ints, c.line_columns-left.type_inv) in
    let run = line_run c.args.from c.args.to c.args.y c.args.x c.line_columns-left.result.0 c.line_columns-left.result.1 (length c.args.out.now) c.span-first.result.0 c.span-first.result.1
    (rw y at c.line_columns-left.ensures) (rw (x, left) at c.span-first.ensures) in
    line_laid c.args.from c.args.to c.args.ink.now c.args.y c.args.x (length c.args.out.now) c.span-first.result.0 c.span-first.result.1 c.args.out.now c.lay.new.out run c.lay.ensures

pub returns-else-count-gt0 : goal.returns-else-count-gt0
returns-else-count-gt0 c =
    let y : to_z w32 (of_z w32 c.args.y) ≡ c.args.y = omega (arith, ints) in
    line_off c.args.from c.args.to c.args.ink.now c.args.y c.args.x c.line_columns-left.result.0 c.line_columns-left.result.1 c.args.out.now (rw y at c.line_columns-left.ensures) c.if-count-gt0.false

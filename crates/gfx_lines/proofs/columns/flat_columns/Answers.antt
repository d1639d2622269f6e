use Rattle.std.proofs.Common.{◌≡◌, to_z, of_z, w32, arith}
use Rattle.std.proofs.lemmas.Int.{ints}
use Rattle.gfx_lines.specs.Lines.{apart}
use Rattle.gfx_lines.proofs.StepLemmas.{apart_is, apart_under}
use Rattle.gfx_lines.proofs.ColumnLemmas.{columns_flat}
use Rattle.gfx_lines.proofs.columns.flat_columns.Goals as goal

pub steps_gone-first-requires-clause-long : goal.steps_gone-first-requires-clause-long
steps_gone-first-requires-clause-long c = omega (arith, ints)

pub steps_gone-first-requires-clause-short : goal.steps_gone-first-requires-clause-short
steps_gone-first-requires-clause-short c = omega (arith, ints)

pub steps_gone-first-requires-clause-gone : goal.steps_gone-first-requires-clause-gone
steps_gone-first-requires-clause-gone c =
    let gone : c.abs_diff.result ≡ apart c.args.from.y c.args.y = omega (arith, ints) in
    let short : c.abs_diff-rows.result ≡ apart c.args.from.y c.args.to.y = omega (arith, ints) in
    let under = apart_under c.args.from.y c.args.to.y c.args.y c.requires.top c.requires.bottom in
    omega (arith, gone, short, under)

pub returns : goal.returns
returns c =
    let y : to_z w32 (of_z w32 c.args.y) ≡ c.args.y = omega (arith, ints) in
    let from_x : to_z w32 (of_z w32 c.args.from.x) ≡ c.args.from.x = omega (arith, ints) in
    let to_x : to_z w32 (of_z w32 c.args.to.x) ≡ c.args.to.x = omega (arith, ints) in
    let from_y : to_z w32 (of_z w32 c.args.from.y) ≡ c.args.from.y = omega (arith, ints) in
    let to_y : to_z w32 (of_z w32 c.args.to.y) ≡ c.args.to.y = omega (arith, ints) in
    columns_flat c.args.from c.args.to c.args.y c.step_columns.result.0 c.step_columns.result.1 c.abs_diff-columns.result c.abs_diff-rows.result c.abs_diff.result c.steps_gone-first.result.0 c.steps_gone-first.result.1
    c.requires.some c.requires.flat c.requires.top c.requires.bottom
    (apart_is c.args.from.x c.args.to.x _ (rw (from_x, to_x) at c.abs_diff-columns.ensures)) (apart_is c.args.from.y c.args.to.y _ (rw (from_y, to_y) at c.abs_diff-rows.ensures)) (apart_is c.args.from.y c.args.y _ (rw (from_y, y) at c.abs_diff.ensures))
    c.steps_gone-first.ensures (rw (from_x, to_x) at c.step_columns.ensures)

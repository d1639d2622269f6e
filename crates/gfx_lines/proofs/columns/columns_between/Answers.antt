use Rattle.std.proofs.Common.{◌≡◌, to_z, of_z, w32, arith, ◌∙◌}
use Rattle.std.proofs.lemmas.Int.{ints}
use Rattle.gfx_lines.specs.Lines.{apart}
use Rattle.gfx_lines.proofs.StepLemmas.{apart_is, apart_under}
use Rattle.gfx_lines.proofs.ColumnLemmas.{columns_steep, columns_dot}
use Rattle.gfx_lines.proofs.columns.columns_between.Goals as goal

pub aside-gone-requires-clause-step : goal.aside-gone-requires-clause-step
aside-gone-requires-clause-step c =
    let gone : c.abs_diff.result ≡ apart c.args.from.y c.args.y = omega (arith, ints) in
    let long : c.abs_diff-rows.result ≡ apart c.args.from.y c.args.to.y = omega (arith, ints) in
    let under = apart_under c.args.from.y c.args.to.y c.args.y c.requires.top c.requires.bottom in
    omega (arith, gone, long, under)

pub returns-then-columns-rows : goal.returns-then-columns-rows
returns-then-columns-rows c =
    let y : to_z w32 (of_z w32 c.args.y) ≡ c.args.y = omega (arith, ints) in
    let from_x : to_z w32 (of_z w32 c.args.from.x) ≡ c.args.from.x = omega (arith, ints) in
    let to_x : to_z w32 (of_z w32 c.args.to.x) ≡ c.args.to.x = omega (arith, ints) in
    let from_y : to_z w32 (of_z w32 c.args.from.y) ≡ c.args.from.y = omega (arith, ints) in
    let to_y : to_z w32 (of_z w32 c.args.to.y) ≡ c.args.to.y = omega (arith, ints) in
    let column : to_z w32 (of_z w32 c.toward.result) ≡ c.toward.result = omega (arith, ints) in
    columns_steep c.args.from c.args.to c.args.y (to_z w32 (of_z w32 c.toward.result)) c.abs_diff-rows.result c.abs_diff-columns.result c.abs_diff.result c.aside-gone.result
    (omega (arith, ints)) c.requires.top c.requires.bottom
    (apart_is c.args.from.y c.args.to.y _ (rw (from_y, to_y) at c.abs_diff-rows.ensures)) (apart_is c.args.from.x c.args.to.x _ (rw (from_x, to_x) at c.abs_diff-columns.ensures)) (apart_is c.args.from.y c.args.y _ (rw (from_y, y) at c.abs_diff.ensures))
    c.aside-gone.ensures.value (column ∙ (rw (from_x, to_x) at c.toward.ensures.value))

pub returns-else-columns-gt0 : goal.returns-else-columns-gt0
returns-else-columns-gt0 c =
    let from_x : to_z w32 (of_z w32 c.args.from.x) ≡ c.args.from.x = omega (arith, ints) in
    rw from_x (columns_dot c.args.from c.args.to c.args.y (omega (arith, ints)) (omega (arith, ints)) c.requires.top c.requires.bottom)

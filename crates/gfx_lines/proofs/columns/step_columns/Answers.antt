use Rattle.std.proofs.Common.{refl, arith}
use Rattle.std.proofs.lemmas.Int.{ints}
use Rattle.gfx_lines.proofs.ColumnLemmas.{columns_up, columns_down}
use Rattle.gfx_lines.proofs.columns.step_columns.Goals as goal

pub returns-then-from-to : goal.returns-then-from-to
returns-then-from-to c = columns_up c.args.from c.args.to c.args.first c.args.end _ _ (omega (arith, ints)) c.requires.ordered (omega (arith, ints)) refl

pub returns-else-from-to : goal.returns-else-from-to
returns-else-from-to c = columns_down c.args.from c.args.to c.args.first c.args.end _ _ (omega (arith, ints)) c.requires.ordered (omega (arith, ints)) refl

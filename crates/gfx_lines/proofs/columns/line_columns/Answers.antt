use Rattle.std.proofs.Common.{inl, inr, arith}
use Rattle.std.proofs.lemmas.Int.{ints, clamps}
use Rattle.gfx_lines.proofs.ColumnLemmas.{columns_none}
use Rattle.gfx_lines.proofs.columns.line_columns.Goals as goal
use Rattle.gfx_lines.proofs.columns.line_columns.Goals.{else-min-y-via-then-min-y+else-y-max, else-min-y-via-else-min-y}

pub returns-else-min-y : goal.returns-else-min-y
returns-else-min-y c =
    columns_none c.args.from c.args.to c.args.y (elim c.else-min-y.branch [
      | else-min-y-via-then-min-y+else-y-max w ↦ inr (omega (arith, ints, clamps, w.max.ensures.value, w.if-y-max.false))
      | else-min-y-via-else-min-y w ↦ inl (omega (arith, ints, clamps, c.min.ensures.value, w.if-min-y.false))
    ])

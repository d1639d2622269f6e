use Rattle.std.proofs.Common.{◌∙◌, sym, arith}
use Rattle.script_lines.proofs.WideRows.{wide_end}
use Rattle.script_lines.proofs.glyphs.glyph_rows.Goals as goal

pub returns-then-n-gt32 : goal.returns-then-n-gt32
returns-then-n-gt32 c = wide_end c.args.width.now c.in-Ok.n c.args.words.now c.wide_cause.result (sym c.number.ensures.value ∙ c.in-Ok.is) (omega arith) c.wide_cause.ensures

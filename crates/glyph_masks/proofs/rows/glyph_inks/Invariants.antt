use Rattle.std.proofs.Common.{◌≡◌, ◌+◌, ◌<◌, ℕ, get_or}
use Rattle.qws_base.specs.declared.inks.Ink.TheVariants.{Skip}
use Rattle.glyph_masks.specs.Texts.{column_bit}
use Rattle.glyph_masks.specs.Columns.{bit_ink}
use Rattle.glyph_masks.proofs.rows.glyph_inks.Given as goal

abbrev pub invariant-loop-j : goal.invariant-loop-j
invariant-loop-j l = (k : ℕ) → k < l.j → get_or l.out k Skip ≡ bit_ink l.ink (column_bit l.width l.row (l.first + k))

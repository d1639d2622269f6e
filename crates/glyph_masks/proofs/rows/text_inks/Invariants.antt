use Rattle.std.proofs.Common.{drop}
use Rattle.glyph_masks.proofs.BitLemmas.{Front}
use Rattle.glyph_masks.proofs.rows.text_inks.Given as goal

abbrev pub invariant-loop-glyph : goal.invariant-loop-glyph
invariant-loop-glyph l = Front l.ink l.glyphs (drop l.glyph-index l.glyphs) l.row l.first l.column l.at l.out

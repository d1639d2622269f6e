use Rattle.glyph_masks.proofs.CellLemmas.{one_cell}
use Rattle.glyph_masks.proofs.texts.no_shared_points.Goals as goal

pub returns : goal.returns
returns c = one_cell c.args.text.now.height c.args.text.now.glyphs c.args.text.now.at c.args.p

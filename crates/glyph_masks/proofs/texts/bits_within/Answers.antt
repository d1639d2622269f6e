use Rattle.glyph_masks.proofs.CellLemmas.{bits_within}
use Rattle.glyph_masks.proofs.texts.bits_within.Goals as goal

pub returns : goal.returns
returns c = bits_within c.args.text.now c.args.p

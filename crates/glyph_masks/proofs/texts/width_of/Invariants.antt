use Rattle.std.proofs.Common.{◌≡◌, ◌+◌, ◌*◌, ◌≤◌, drop}
use Rattle.glyph_masks.specs.Texts.{width_of}
use Rattle.glyph_masks.proofs.texts.width_of.Given as goal

abbrev pub invariant-loop-glyph : goal.invariant-loop-glyph
invariant-loop-glyph l = record {
  few : l.width ≤ 32 * l.glyph-index;
  left : l.width + width_of (drop l.glyph-index l.glyphs) ≡ width_of l.glyphs;
}

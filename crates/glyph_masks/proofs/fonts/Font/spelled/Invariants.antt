use Rattle.std.proofs.Common.{◌≡◌, ◌++◌, drop}
use Rattle.glyph_masks.specs.Texts.{spelled}
use Rattle.glyph_masks.proofs.fonts.Font.spelled.Given as goal

abbrev pub invariant-loop-code : goal.invariant-loop-code
invariant-loop-code l = l.glyphs.items ++ spelled l.self (drop l.code-index l.codes) ≡ spelled l.self l.codes

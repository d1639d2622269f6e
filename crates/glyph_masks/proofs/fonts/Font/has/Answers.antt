use Rattle.std.proofs.Common.{ap, ◌∙◌}
use Rattle.glyph_masks.specs.Glyphs.{has_code}
use Rattle.glyph_masks.proofs.FontLemmas.{has_at}
use Rattle.glyph_masks.proofs.fonts.Font.has.Goals as goal

pub returns : goal.returns
returns c = c.contains_key.ensures ∙ has_at c.self.inside.height c.args.code c.self.inside.widths.entries c.self.inside.rows.items ∙ ap (λ f. has_code f c.args.code) c.self.view_is

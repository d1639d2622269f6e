use Rattle.std.proofs.Common.{◌≡◌, List, map, Ok, ap, sym, ◌∙◌}
use Rattle.glyph_masks.specs.Glyphs.{FontView}
use Rattle.script_grammar.specs.Session.{GlyphLine}
use Rattle.script_grammar.specs.Lines.{glyph_read}
use Rattle.script_lines.proofs.Adding.{glyph_limits}
use Rattle.script_lines.proofs.assets.next_glyph.Goals as goal

pub add_glyph-requires-clause-some : goal.add_glyph-requires-clause-some
add_glyph-requires-clause-some c =
    let read = rw c.in-Ok.is at c.in_ok-read.ensures in
    let own : glyph_read c.args.fonts.now.items (map (λ w. w.now) c.args.words.now) ≡ Ok (GlyphLine c.in-Ok.glyph) = ap (λ (fs : List FontView). glyph_read fs (map (λ w. w.now) c.args.words.now)) (sym c.deref.ensures.value) ∙ sym read in
    (glyph_limits c.args.fonts.now.items c.args.images.now.items (map (λ w. w.now) c.args.words.now) c.in-Ok.glyph c.requires own).0

pub add_glyph-requires-clause-new : goal.add_glyph-requires-clause-new
add_glyph-requires-clause-new c =
    let read = rw c.in-Ok.is at c.in_ok-read.ensures in
    let own : glyph_read c.args.fonts.now.items (map (λ w. w.now) c.args.words.now) ≡ Ok (GlyphLine c.in-Ok.glyph) = ap (λ (fs : List FontView). glyph_read fs (map (λ w. w.now) c.args.words.now)) (sym c.deref.ensures.value) ∙ sym read in
    (glyph_limits c.args.fonts.now.items c.args.images.now.items (map (λ w. w.now) c.args.words.now) c.in-Ok.glyph c.requires own).1

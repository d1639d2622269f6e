-- What a line of a font, a glyph or an image adds.
use Rattle.std.proofs.Common.{◌≡◌, ℕ, ◌+◌, ◌<◌, zero, suc, List, [], ◌∷◌, ◌++◌, length, set, get_or, Ok, Err, refl, ap, sym, ◌∙◌, subst, arith}
use Rattle.glyph_masks.specs.Glyphs.{GlyphView, FontView}
use Rattle.gfx_fills.specs.Images.{ImageView}
use Rattle.script_grammar.specs.Session.{Asset, GlyphLine, with_glyph, fonts_of, images_of, latest}
use Rattle.script_grammar.specs.Limits.{IsNewGlyph}
use Rattle.script_grammar.specs.Judging.{◌or_else◌}
use Rattle.script_grammar.specs.Lines.{font_read, glyph_read, image_read, asset_read}
use Rattle.script_grammar.specs.declared.lines.Cause.TheVariants.{Form}
use Rattle.script_grammar.proofs.Heads.{first_is, second_is, asset_printed}
use Rattle.script_grammar.proofs.Law.{fonts_push, images_push}
use Rattle.script_lines.specs.Stock.{stock_read, IsStockOf, IsSomeStock, AddsToStock, RefusesLine}

-- ---- one line more

asset_is : (before : List Asset) (words : List (List ℕ)) → asset_read before words ≡ stock_read (fonts_of before) (images_of before) words
unfolding asset_read
asset_is before words = refl

pub adds_to_stock : AddsToStock
adds_to_stock before words fonts images h = (
  h.asset,
  asset_is before words ∙ h.read,
  record {
    same_fonts = h.fonts_with ∙ sym (fonts_push [] before h.asset);
    same_images = h.images_with ∙ sym (images_push before h.asset);
  },
)

pub refuses_line : RefusesLine
refuses_line before words cause h = asset_is before words ∙ h

-- ---- a glyph that is read is one that its font takes

not_font : (fonts : List FontView) (words : List (List ℕ)) (glyph : GlyphView) → glyph_read fonts words ≡ Ok (GlyphLine glyph) → font_read fonts words ≡ Err Form
unfolding font_read glyph_read
not_font fonts [] glyph e = refl
not_font fonts (a ∷ []) glyph e = refl
not_font fonts (a ∷ b ∷ []) glyph e = absurd (let h : ⊥ = cc in h)
not_font fonts (a ∷ b ∷ c ∷ words) glyph e = refl

limits_of : (fonts : List FontView) (images : List ImageView) (before : List Asset) (words : List (List ℕ)) (glyph : GlyphView) → IsStockOf fonts images before → glyph_read fonts words ≡ Ok (GlyphLine glyph) → (0 < length fonts) × IsNewGlyph (latest fonts) glyph
limits_of fonts images before words glyph h e =
    let own : glyph_read (fonts_of before) words ≡ Ok (GlyphLine glyph) = subst (λ (fs : List FontView). glyph_read fs words ≡ Ok (GlyphLine glyph)) h.same_fonts e in
    let none = not_font (fonts_of before) words glyph own in
    let read : asset_read before words ≡ Ok (GlyphLine glyph) = asset_is before words ∙ second_is (font_read (fonts_of before) words) (glyph_read (fonts_of before) words or_else image_read (images_of before) words) none ∙ first_is (glyph_read (fonts_of before) words) (image_read (images_of before) words) (GlyphLine glyph) own in
    let limits = (asset_printed before words (GlyphLine glyph) read).1 in
    subst (λ (fs : List FontView). (0 < length fs) × IsNewGlyph (latest fs) glyph) (sym h.same_fonts) limits

pub glyph_limits : (fonts : List FontView) (images : List ImageView) (words : List (List ℕ)) (glyph : GlyphView) → IsSomeStock fonts images → glyph_read fonts words ≡ Ok (GlyphLine glyph) → (0 < length fonts) × IsNewGlyph (latest fonts) glyph
glyph_limits fonts images words glyph h e = limits_of fonts images h.before words glyph h.is e

-- ---- the last of some fonts

pub set_last : (fonts : List FontView) (i : ℕ) (glyph : GlyphView) (d old font : FontView) → i + 1 ≡ length fonts → old ≡ get_or fonts i d → font ≡ record old { glyphs = old.glyphs ++ glyph ∷ [] } → set fonts i font ≡ with_glyph fonts glyph
set_last [] i glyph d old font last at is = absurd (omega arith)
set_last (f ∷ []) zero glyph d old font last at is = ap (λ (g : FontView). g ∷ []) (is ∙ ap (λ (o : FontView). let g : FontView = record o { glyphs = o.glyphs ++ glyph ∷ [] } in g) at)
set_last (f ∷ []) (suc i) glyph d old font last at is = absurd (omega arith)
set_last (f ∷ next ∷ fonts) zero glyph d old font last at is = absurd (omega arith)
set_last (f ∷ next ∷ fonts) (suc i) glyph d old font last at is = ap (λ (fs : List FontView). f ∷ fs) (set_last (next ∷ fonts) i glyph d old font (omega arith) at is)

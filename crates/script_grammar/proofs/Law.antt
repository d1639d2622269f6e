-- The laws, put together.
use Rattle.std.proofs.Common.{◌≡◌, ℕ, ◌+◌, ◌-◌, ◌<◌, ◌≤◌, zero, suc, List, [], ◌∷◌, ◌++◌, length, Bool, true, false, cond, Result, Ok, Err, refl, ap, sym, ◌∙◌, subst, arith, append-nil, append_assoc, length-append, eqb-true}
use Rattle.std.specs.Prelude.{◌==◌, ⊤}
use Rattle.std.specs.List.{filter, All}
use Rattle.std.proofs.lemmas.List.Elements.{filter-append, All-nil, All-cons, All-head, All-tail, All-push}
use Rattle.glyph_masks.specs.Glyphs.{GlyphView, FontView, IsGlyph}
use Rattle.gfx_fills.specs.Images.{IsImage}
use Rattle.script_grammar.specs.Session.{Session, Asset, FontLine, GlyphLine, ImageLine, with_glyph, with_asset, fonts_from, fonts_of, images_of, font_at, latest, is_by, lines_by}
use Rattle.script_grammar.specs.declared.lines.CallLine.{CallLine}
use Rattle.script_grammar.specs.Limits.{IsNewGlyph, IsAsset, IsCallLine, EachBehind, IsSession}
use Rattle.script_grammar.specs.Printing.{script_text}
use Rattle.script_grammar.specs.Reading.{script_of}
use Rattle.script_grammar.specs.Laws.{ReadsAsPrinted, PrintedOnce, IsFew, KeepsLimits, IsFont, IsStock, KeepsStock}
use Rattle.script_grammar.specs.declared.lines.Cause.{Cause}
use Rattle.script_grammar.proofs.Sound.{read_is_printed}
use Rattle.script_grammar.proofs.Complete.{printed_is_read}

pub law : ReadsAsPrinted
law bytes said = (read_is_printed bytes said, λ h. ap script_of h.0 ∙ printed_is_read said h.1)

same_said : (one two : Session) → ◌≡◌ {A = Result Session (ℕ × Cause)} (Ok one) (Ok two) → one ≡ two
same_said one two e = cc

pub once : PrintedOnce
once one two h k e = same_said one two (sym (printed_is_read one h) ∙ ap script_of e ∙ printed_is_read two k)

-- ---- how many there are at most

length-with_glyph : (fonts : List FontView) (glyph : GlyphView) → length (with_glyph fonts glyph) ≡ length fonts
length-with_glyph [] glyph = refl
length-with_glyph (font ∷ []) glyph = refl
length-with_glyph (font ∷ next ∷ fonts) glyph = ap suc (length-with_glyph (next ∷ fonts) glyph)

pub fonts_push : (fonts : List FontView) (before : List Asset) (asset : Asset) → fonts_from fonts (before ++ asset ∷ []) ≡ with_asset (fonts_from fonts before) asset
fonts_push fonts [] asset = refl
fonts_push fonts (a ∷ before) asset = fonts_push (with_asset fonts a) before asset

pub images_push : (before : List Asset) (asset : Asset) → images_of (before ++ asset ∷ []) ≡ images_of before ++ images_of (asset ∷ [])
images_push [] asset = refl
images_push (FontLine height ∷ before) asset = images_push before asset
images_push (GlyphLine glyph ∷ before) asset = images_push before asset
images_push (ImageLine image ∷ before) asset = ap (λ rest. image ∷ rest) (images_push before asset)

fonts_more : (before : List Asset) (asset : Asset) → IsAsset before asset → length (fonts_of before) ≤ 8 → length (fonts_of (before ++ asset ∷ [])) ≤ 8
fonts_more before (FontLine height) h few = let less = h.2 in omega (arith, ap length (fonts_push [] before (FontLine height)), length-append (fonts_of before) (record { height = height; glyphs = [] } ∷ []))
fonts_more before (GlyphLine glyph) h few = omega (arith, ap length (fonts_push [] before (GlyphLine glyph)), length-with_glyph (fonts_of before) glyph)
fonts_more before (ImageLine image) h few = omega (arith, ap length (fonts_push [] before (ImageLine image)))

images_more : (before : List Asset) (asset : Asset) → IsAsset before asset → length (images_of before) ≤ 64 → length (images_of (before ++ asset ∷ [])) ≤ 64
images_more before (FontLine height) h few = omega (arith, ap length (images_push before (FontLine height)), ap length (append-nil (images_of before)))
images_more before (GlyphLine glyph) h few = omega (arith, ap length (images_push before (GlyphLine glyph)), ap length (append-nil (images_of before)))
images_more before (ImageLine image) h few = let less = h.2 in omega (arith, ap length (images_push before (ImageLine image)), length-append (images_of before) (image ∷ []))

-- what holds of nothing, and behind each allowed line where it held before, holds of all
behind_all : {A : Type 0} (Allowed : List A → A → Type 0) (P : List A → Type 0) → ((before : List A) (x : A) → Allowed before x → P before → P (before ++ x ∷ [])) → (before xs : List A) → EachBehind Allowed before xs → P before → P (before ++ xs)
behind_all {A} Allowed P more before [] h p = subst P (sym (append-nil before)) p
behind_all {A} Allowed P more before (x ∷ xs) h p = subst P (append_assoc before (x ∷ []) xs) (behind_all Allowed P more (before ++ x ∷ []) xs h.1 (more before x h.0 p))

one_more_by : (mine : Bool) (line : CallLine) (n : ℕ) → n ≤ 65536 → (mine ≡ true → n < 65536) → n + length (cond mine (line ∷ []) []) ≤ 65536
one_more_by true line n few room = let less = room refl in omega arith
one_more_by false line n few room = omega arith

calls_more : (clients : ℕ) (assets : List Asset) (client : ℕ) (before : List CallLine) (line : CallLine) → IsCallLine clients assets before line → length (lines_by client before) ≤ 65536 → length (lines_by client (before ++ line ∷ [])) ≤ 65536
calls_more clients assets client before line h few =
    let room : (is_by client line ≡ true) → length (lines_by client before) < 65536 = λ mine. subst (λ c. length (lines_by c before) < 65536) (eqb-true line.client client mine) h.room in
    omega (arith, ap length (filter-append (is_by client) before (line ∷ [])), length-append (lines_by client before) (lines_by client (line ∷ [])), one_more_by (is_by client line) line (length (lines_by client before)) few room)

pub few : KeepsLimits
few said h = record {
  fonts = behind_all IsAsset (λ assets. length (fonts_of assets) ≤ 8) fonts_more [] said.assets h.assets (omega arith);
  images = behind_all IsAsset (λ assets. length (images_of assets) ≤ 64) images_more [] said.assets h.assets (omega arith);
  calls = λ client. behind_all (IsCallLine said.clients said.assets) (λ calls. length (lines_by client calls) ≤ 65536) (calls_more said.clients said.assets client) [] said.calls h.calls (omega arith);
}

-- ---- fonts and images

font_again : (font : FontView) (glyph : GlyphView) → IsFont font → IsNewGlyph font glyph → IsFont (record font { glyphs = font.glyphs ++ glyph ∷ [] })
font_again font glyph h k = record {
  some_height = h.some_height;
  most_height = h.most_height;
  glyphs = All-push (λ (g : GlyphView). IsGlyph font.height g.width g.rows) font.glyphs glyph h.glyphs k.shape;
}

-- the last of some fonts, as a place among them
last_of : (font next : FontView) (fonts : List FontView) → latest (font ∷ next ∷ fonts) ≡ latest (next ∷ fonts)
last_of font next fonts =
    ap (λ i. font_at (font ∷ next ∷ fonts) i) (let e : suc (suc (length fonts)) - 1 ≡ suc (length fonts) = omega arith in e)
    ∙ ap (λ i. font_at (next ∷ fonts) i) (let e : length fonts ≡ suc (length fonts) - 1 = omega arith in e)

fonts_with : (fonts : List FontView) (glyph : GlyphView) → All IsFont fonts → (0 < length fonts → IsNewGlyph (latest fonts) glyph) → All IsFont (with_glyph fonts glyph)
fonts_with [] glyph h k = h
fonts_with (font ∷ []) glyph h k = All-cons IsFont _ [] (font_again font glyph (All-head IsFont font [] h) (k (omega arith))) (All-nil IsFont)
fonts_with (font ∷ next ∷ fonts) glyph h k = All-cons IsFont font (with_glyph (next ∷ fonts) glyph) (All-head IsFont font (next ∷ fonts) h) (fonts_with (next ∷ fonts) glyph (All-tail IsFont font (next ∷ fonts) h) (λ some. subst (λ (f : FontView). IsNewGlyph f glyph) (last_of font next fonts) (k (omega arith))))

new_font : (height : ℕ) → 1 ≤ height → height ≤ 32 → IsFont (record { height = height; glyphs = [] })
new_font height some most = record { some_height = some; most_height = most; glyphs = All-nil (λ (g : GlyphView). IsGlyph height g.width g.rows) }

fonts_kept : (before : List Asset) (asset : Asset) → IsAsset before asset → All IsFont (fonts_of before) → All IsFont (fonts_of (before ++ asset ∷ []))
fonts_kept before (FontLine height) h all = subst (All IsFont) (sym (fonts_push [] before (FontLine height))) (All-push IsFont (fonts_of before) (record { height = height; glyphs = [] }) all (new_font height h.0 h.1))
fonts_kept before (GlyphLine glyph) h all = subst (All IsFont) (sym (fonts_push [] before (GlyphLine glyph))) (fonts_with (fonts_of before) glyph all (λ some. h.1))
fonts_kept before (ImageLine image) h all = subst (All IsFont) (sym (fonts_push [] before (ImageLine image))) all

images_kept : (before : List Asset) (asset : Asset) → IsAsset before asset → All IsImage (images_of before) → All IsImage (images_of (before ++ asset ∷ []))
images_kept before (FontLine height) h all = subst (All IsImage) (sym (images_push before (FontLine height) ∙ append-nil (images_of before))) all
images_kept before (GlyphLine glyph) h all = subst (All IsImage) (sym (images_push before (GlyphLine glyph) ∙ append-nil (images_of before))) all
images_kept before (ImageLine image) h all = subst (All IsImage) (sym (images_push before (ImageLine image))) (All-push IsImage (images_of before) image all h.0)

pub stock : KeepsStock
stock said h = record {
  fonts = behind_all IsAsset (λ assets. All IsFont (fonts_of assets)) fonts_kept [] said.assets h.assets (All-nil IsFont);
  images = behind_all IsAsset (λ assets. All IsImage (images_of assets)) images_kept [] said.assets h.assets (All-nil IsImage);
}

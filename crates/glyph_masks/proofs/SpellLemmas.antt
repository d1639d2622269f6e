-- What is spelled: glyphs of the font, at most one for each code.
use Rattle.std.proofs.Common.{ℕ, ◌≡◌, ◌<◌, ◌≤◌, List, [], ◌∷◌, length, Option, None, Some, Bool, true, false, cond, suc, ◌==◌, refl, subst, arith}
use Rattle.std.proofs.lemmas.List.Elements.{All-cons}
use Rattle.std.specs.List.{All, find, cons_option}
use Rattle.glyph_masks.specs.Glyphs.{GlyphView, FontView, glyph_of}
use Rattle.glyph_masks.specs.Texts.{spelled}

-- what holds of all holds of the one that is found
pub found : (P : GlyphView → Type 0) (test : GlyphView → Bool) (gs : List GlyphView) → All P gs → (x : GlyphView) → find test gs ≡ Some x → P x
found P test [] a x e = cc
found P test (g ∷ gs) a x e = by (found P test gs (λ k d h. a (suc k) d (omega arith)) x) (test g) e where
  by : (find test gs ≡ Some x → P x) → (t : Bool) → (cond t (Some g) (find test gs)) ≡ Some x → P x
  by ih true h = let same : g ≡ x = cc in subst P same (a 0 g (omega arith))
  by ih false h = ih h

-- the glyphs have so many rows
abbrev HasRows : ℕ → GlyphView → Type 0
HasRows height g = length g.rows ≡ height

pub rows_of_spelled : (font : FontView) (codes : List ℕ) (height : ℕ) → All (λ g. length g.rows ≡ height) font.glyphs → All (λ g. length g.rows ≡ height) (spelled font codes)
rows_of_spelled font [] height a = λ k d h. absurd (omega arith)
rows_of_spelled font (code ∷ codes) height a = by (rows_of_spelled font codes height a) (glyph_of font code) (found (HasRows height) (λ g. g.code == code) font.glyphs a) where
  by : All (HasRows height) (spelled font codes) → (o : Option GlyphView) → ((x : GlyphView) → o ≡ Some x → HasRows height x) → All (HasRows height) (cons_option o (spelled font codes))
  by ih None h = ih
  by ih (Some x) h = All-cons (HasRows height) x (spelled font codes) (h x refl) ih

pub length_spelled : (font : FontView) (codes : List ℕ) → length (spelled font codes) ≤ length codes
length_spelled font [] = omega arith
length_spelled font (code ∷ codes) = by (glyph_of font code) (length_spelled font codes) where
  by : (o : Option GlyphView) → length (spelled font codes) ≤ length codes → length (cons_option o (spelled font codes)) ≤ length (code ∷ codes)
  by None ih = omega (arith, ih)
  by (Some x) ih = omega (arith, ih)

-- glyphs of so many rows have a row
pub rows_reach : (gs : List GlyphView) (height row : ℕ) → All (λ g. length g.rows ≡ height) gs → row < height → All (λ g. row < length g.rows) gs
rows_reach gs height row a h k d b = omega (arith, a k d b)

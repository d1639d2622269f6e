-- Glyphs and fonts.
use Rattle.std.specs.Prelude.{ℕ, ◌≡◌, ◌<◌, ◌≤◌, ◌^◌, ◌==◌, Bool, List, length, Option}
use Rattle.std.specs.List.{find, All, list_any}

-- a glyph is seen as its code, its width and the bits of its rows from the top; the leftmost column is the highest bit
pub record GlyphView : Type 0 where
  pub code : ℕ
  pub width : ℕ
  pub rows : List ℕ

-- a font is seen as its height and its glyphs in the order in which they were added
pub record FontView : Type 0 where
  pub height : ℕ
  pub glyphs : List GlyphView

-- what a font of a height takes as a glyph
pub record IsGlyph (height width : ℕ) (rows : List ℕ) : Type 0 where
  pub some_width : 0 < width
  pub most_width : width ≤ 32
  pub rows_of_font : length rows ≡ height
  pub bits : All (λ row. row < 2 ^ width) rows

abbrev pub has_code : FontView → ℕ → Bool
has_code font code = list_any (λ g. g.code == code) font.glyphs

abbrev pub glyph_of : FontView → ℕ → Option GlyphView
glyph_of font code = find (λ g. g.code == code) font.glyphs

-- How a font keeps its glyphs: the code and the width of each, and the rows of all, one glyph's behind the other's.
use Rattle.std.specs.Prelude.{ℕ, ◌≡◌, ◌<◌, ◌≤◌, ◌*◌, List, [], ◌∷◌, length, take, drop}
use Rattle.std.specs.List.{All}
use Rattle.glyph_masks.specs.Glyphs.{GlyphView, IsGlyph}

-- the glyphs of such codes and widths, each with the next rows
abbrev pub placed : ℕ → List (ℕ × ℕ) → List ℕ → List GlyphView
placed height [] rows = []
placed height (e ∷ es) rows = record { code = e.0; width = e.1; rows = take height rows } ∷ placed height es (drop height rows)

-- what a font keeps: as many rows as its glyphs have together, and good glyphs
pub record ArePlaced (height : ℕ) (entries : List (ℕ × ℕ)) (rows : List ℕ) : Type 0 where
  pub some_height : 0 < height
  pub most_height : height ≤ 32
  pub rows_of_all : length rows ≡ length entries * height
  pub good : All (λ g. IsGlyph height g.width g.rows) (placed height entries rows)

-- Texts: glyphs in cells side by side.
use Rattle.std.specs.Prelude.{ℕ, ◌≡◌, ◌+◌, ◌-◌, ◌/◌, ◌%◌, ◌^◌, ◌≤◌, ◌==◌, pos, ◌+ℤ◌, ◌-ℤ◌, nat_abs, Bool, not, ◌&&◌, List, [], ◌∷◌, length, Option, slice_index, if◌then◌else◌}
use Rattle.std.specs.List.{All, find, filter, filter_map, list_any}
use Rattle.qws_base.specs.declared.points.Point.{Point}
use Rattle.qws_base.specs.declared.points.Rect.{Rect}
use Rattle.qws_base.specs.declared.inks.Ink.{Ink}
use Rattle.qws_base.specs.declared.inks.Ink.TheVariants.{Skip}
use Rattle.qws_base.specs.Points.{holds, IsPlaced}
use Rattle.qws_base.specs.Sheets.{Sheet, sheet_of}
use Rattle.glyph_masks.specs.Glyphs.{GlyphView, FontView, has_code, glyph_of}

-- the first code that the font lacks
abbrev pub first_missing : FontView → List ℕ → Option ℕ
first_missing font codes = find (λ code. not (has_code font code)) codes

-- the glyphs of codes
abbrev pub spelled : FontView → List ℕ → List GlyphView
spelled font codes = filter_map (glyph_of font) codes

-- a text is seen as its top left point, its ink, the height of its font and its glyphs from the left
pub record TextView : Type 0 where
  pub at : Point
  pub ink : Ink
  pub height : ℕ
  pub glyphs : List GlyphView

-- where a glyph lies, and the bits of its rows
pub record Cell : Type 0 where
  pub rect : Rect
  pub rows : List ℕ

-- the cells of glyphs, each to the right of the one before
abbrev pub cells_from : ℕ → Point → List GlyphView → List Cell
cells_from height at [] = []
cells_from height at (g ∷ gs) =
    record { rect = record { x = at.x; y = at.y; w = g.width; h = height }; rows = g.rows } ∷ cells_from height (record { x = at.x +ℤ pos g.width; y = at.y }) gs

abbrev pub cells : TextView → List Cell
cells text = cells_from text.height text.at text.glyphs

-- the bit of a column in a row of so many columns: the leftmost is the highest
abbrev pub column_bit : ℕ → ℕ → ℕ → Bool
column_bit width row column = row / 2 ^ (width - 1 - column) % 2 == 1

-- the point is in the cell, and its bit is set
abbrev pub is_set : Cell → Point → Bool
is_set cell p = holds cell.rect p && column_bit cell.rect.w (slice_index cell.rows (nat_abs (p.y -ℤ cell.rect.y))) (nat_abs (p.x -ℤ cell.rect.x))

abbrev pub any_set : List Cell → Point → Bool
any_set cs p = list_any (λ cell. is_set cell p) cs

-- how many columns glyphs take
abbrev pub width_of : List GlyphView → ℕ
width_of [] = 0
width_of (g ∷ gs) = g.width + width_of gs

abbrev pub text_rect : TextView → Rect
text_rect text = record { x = text.at.x; y = text.at.y; w = width_of text.glyphs; h = text.height }

-- the ink at the points of the cells whose bit is set
abbrev pub text_sheet : TextView → Sheet
text_sheet text = sheet_of (text_rect text) (λ p. if any_set (cells text) p then text.ink else Skip)

-- at most one cell has the point in it
abbrev pub IsInOneCell : TextView → Point → Type 0
IsInOneCell text p = length (filter (λ cell. holds cell.rect p) (cells text)) ≤ 1

-- what a text keeps: few glyphs, each with a row of bits for each row of the font, and their width
pub record IsText (at : Point) (height width : ℕ) (glyphs : List GlyphView) : Type 0 where
  pub placed : IsPlaced at
  pub few : length glyphs ≤ 256
  pub rows : All (λ g. length g.rows ≡ height) glyphs
  pub wide : width ≡ width_of glyphs

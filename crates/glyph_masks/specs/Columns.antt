-- A row of a text by its columns.
use Rattle.std.specs.Prelude.{ℕ, ◌-◌, ◌+◌, nat_lt, ℤ, pos, negsuc, Bool, false, List, [], ◌∷◌, map, slice_index, if◌then◌else◌}
use Rattle.std.specs.List.{range_with_len}
use Rattle.qws_base.specs.declared.inks.Ink.{Ink}
use Rattle.qws_base.specs.declared.inks.Ink.TheVariants.{Skip}
use Rattle.glyph_masks.specs.Glyphs.{GlyphView}
use Rattle.glyph_masks.specs.Texts.{column_bit}

-- the bit of a row and a column of glyphs side by side
abbrev pub text_bit : List GlyphView → ℕ → ℕ → Bool
text_bit [] row column = false
text_bit (g ∷ gs) row column = if nat_lt column g.width then column_bit g.width (slice_index g.rows row) column else text_bit gs row (column - g.width)

-- before the first column there is none
abbrev pub bit_at : List GlyphView → ℕ → ℤ → Bool
bit_at glyphs row (pos column) = text_bit glyphs row column
bit_at glyphs row (negsuc column) = false

abbrev pub bit_ink : Ink → Bool → Ink
bit_ink ink b = if b then ink else Skip

-- the inks of n columns of a row of a glyph
abbrev pub glyph_inks : Ink → ℕ → ℕ → ℕ → ℕ → List Ink
glyph_inks ink width row first n = map (λ j. bit_ink ink (column_bit width row (first + j))) (range_with_len 0 n)

-- the inks of n columns of a row of glyphs side by side
abbrev pub text_inks : Ink → List GlyphView → ℕ → ℕ → ℕ → List Ink
text_inks ink glyphs row first n = map (λ j. bit_ink ink (text_bit glyphs row (first + j))) (range_with_len 0 n)

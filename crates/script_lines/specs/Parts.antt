-- The words of a glyph's and an image's line, behind the first.
use Rattle.std.specs.Prelude.{ℕ, Bool, ◌==◌, ◌&&◌, nat_lt, List, length, Result, Ok}
use lib.Chars.{codes}
use Rattle.std.specs.Str.{bytes_eq}
use Rattle.glyph_masks.specs.Glyphs.{GlyphView, FontView}
use Rattle.gfx_fills.specs.Images.{ImageView}
use Rattle.script_grammar.specs.Session.{latest}
use Rattle.script_grammar.specs.Judging.{◌⊛◌, ◌>>=◌, each_of}
use Rattle.script_grammar.specs.Spelling.{number_read}
use Rattle.script_grammar.specs.Words.{short_read, ranged, row_read, pixels_read}
use Rattle.script_grammar.specs.Lines.{whole_image}
use Rattle.script_grammar.specs.declared.lines.Cause.{Cause}

-- the rows beside a WIDTH
abbrev pub rows_read : List ℕ → List (List ℕ) → Result (List ℕ) Cause
rows_read width rows = number_read width >>= λ columns. each_of (row_read columns) rows

abbrev pub glyph_parts : List ℕ → List ℕ → List (List ℕ) → Result GlyphView Cause
glyph_parts code width rows = Ok (λ code width rows. record { code = code; width = width; rows = rows }) ⊛ short_read code ⊛ ranged 1 32 width ⊛ rows_read width rows

-- a line with that first word and so many rows may be a glyph of the latest font
abbrev pub is_glyph_line : List FontView → List ℕ → ℕ → Bool
is_glyph_line fonts kind rows = bytes_eq kind (codes "glyph") && (nat_lt 0 (length fonts) && rows == (latest fonts).height)

abbrev pub image_parts : List ℕ → List ℕ → List ℕ → Result ImageView Cause
image_parts w h pixels = Ok (λ w h pixels. record { w = w; h = h; pixels = pixels }) ⊛ ranged 1 256 w ⊛ ranged 1 256 h ⊛ pixels_read pixels >>= whole_image

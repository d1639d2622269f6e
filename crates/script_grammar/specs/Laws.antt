-- Laws of the grammar.
use Rattle.std.specs.Prelude.{ℕ, false, ◌≡◌, ◌+◌, ◌<◌, ◌≤◌, ◌↔◌, List, [], ◌∷◌, ◌++◌, length, Result, Ok, Err, IsErr}
use Rattle.std.specs.List.{All}
use Rattle.glyph_masks.specs.Glyphs.{GlyphView, FontView, IsGlyph}
use Rattle.gfx_fills.specs.Images.{IsImage}
use Rattle.script_grammar.specs.Session.{Session, fonts_of, images_of, lines_by}
use Rattle.script_grammar.specs.Limits.{IsSession}
use Rattle.script_grammar.specs.Printing.{script_lines, script_text}
use Rattle.script_grammar.specs.Reading.{Before, line_in, text_lines, script_of}
use Rattle.script_grammar.specs.Shapes.{fits_there}
use Rattle.script_grammar.specs.declared.lines.Cause.{Cause}
use Rattle.script_grammar.specs.declared.lines.Cause.TheVariants.{Form, End}

-- the bytes that read as a session are those that it is printed as, and it is within the limits
abbrev pub ReadsAsPrinted : Type 0
ReadsAsPrinted = (bytes : List ℕ) (said : Session) → (script_of bytes ≡ Ok said) ↔ ((bytes ≡ script_text said) × IsSession said)

-- sessions within the limits that are printed alike are the same
abbrev pub PrintedOnce : Type 0
PrintedOnce = (one two : Session) → IsSession one → IsSession two → script_text one ≡ script_text two → one ≡ two

-- how many there are at most
pub record IsFew (said : Session) : Type 0 where
  pub fonts : length (fonts_of said.assets) ≤ 8
  pub images : length (images_of said.assets) ≤ 64
  pub calls : (client : ℕ) → length (lines_by client said.calls) ≤ 65536

abbrev pub KeepsLimits : Type 0
KeepsLimits = (said : Session) → IsSession said → IsFew said

-- ---- the first bad line

-- some script has these lines first, each of them ended
pub record BeginsScript (texts : List (List ℕ)) : Type 0 where
  pub said : Session
  pub limits : IsSession said
  pub rest : List (List ℕ)
  pub some : 0 < length rest
  pub lines : text_lines (script_text said) ≡ texts ++ rest

-- Some script begins with the lines before it, and none with these and this line; but for a last line that isn't ended, whose
-- cause is then `end`.
pub record IsFirstBad (bytes : List ℕ) (line : ℕ) (cause : Cause) : Type 0 where
  pub front : List (List ℕ)
  pub text : List ℕ
  pub back : List (List ℕ)
  pub whole : text_lines bytes ≡ front ++ text ∷ back
  pub number : line ≡ 1 + length front
  pub before : BeginsScript front
  pub bad : BeginsScript (front ++ text ∷ []) → (cause ≡ End) × (back ≡ [])

abbrev pub FirstBad : Type 0
FirstBad = (bytes : List ℕ) (line : ℕ) (cause : Cause) → script_of bytes ≡ Err (line, cause) → IsFirstBad bytes line cause

-- what follows a script is the line behind its last, with the cause `end`
abbrev pub NothingBehind : Type 0
NothingBehind = (said : Session) (more : List ℕ) → IsSession said → 0 < length more → script_of (script_text said ++ more) ≡ Err (length (script_lines said) + 1, End)

-- a part of a script that something follows in it is no script
abbrev pub NoFront : Type 0
NoFront = (front more : List ℕ) (said : Session) → script_of (front ++ more) ≡ Ok said → 0 < length more → IsErr (script_of front)

-- ---- fonts and images

-- what the lines of a font make is a font
pub record IsFont (font : FontView) : Type 0 where
  pub some_height : 1 ≤ font.height
  pub most_height : font.height ≤ 32
  pub glyphs : All (λ glyph. IsGlyph font.height glyph.width glyph.rows) font.glyphs

pub record IsStock (said : Session) : Type 0 where
  pub fonts : All IsFont (fonts_of said.assets)
  pub images : All IsImage (images_of said.assets)

abbrev pub KeepsStock : Type 0
KeepsStock = (said : Session) → IsSession said → IsStock said

-- ---- forms

-- the cause is `form` exactly where the line, by its fixed words and its number of words, isn't of a form that may stand there
abbrev pub ToldByShape : Type 0
ToldByShape = (before : Before) (words : List (List ℕ)) → (line_in before words ≡ Err Form) ↔ (fits_there before words ≡ false)

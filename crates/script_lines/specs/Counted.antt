-- Calls that were counted by client.
use Rattle.std.specs.Prelude.{ℕ, ◌≡◌, ◌<◌, List, [], ◌∷◌, ◌++◌, length, slice_index, Result, Ok, Err}
use Rattle.glyph_masks.specs.Glyphs.{FontView}
use Rattle.script_grammar.specs.Session.{Session, fonts_of, images_of, lines_by}
use Rattle.script_grammar.specs.Lines.{line_read}
use Rattle.script_grammar.specs.declared.lines.CallLine.{CallLine}
use Rattle.script_grammar.specs.declared.lines.Cause.{Cause}

-- for each of 16 clients, how many of the calls are its
abbrev pub IsCounted : List ℕ → List CallLine → Type 0
IsCounted counts calls = (client : ℕ) → client < 16 → slice_index counts client ≡ length (lines_by client calls)

-- a session has so many clients, these fonts and so many images, and its calls were counted
pub record IsBehind (clients : ℕ) (fonts : List FontView) (images : ℕ) (counts : List ℕ) (said : Session) : Type 0 where
  pub same_clients : said.clients ≡ clients
  pub same_fonts : fonts_of said.assets ≡ fonts
  pub same_images : length (images_of said.assets) ≡ images
  pub counted : IsCounted counts said.calls

-- what words make behind a session: a line that is counted then, or the cause why they make none
abbrev pub ReadBehind : Session → List ℕ → List ℕ → Result CallLine Cause → List (List ℕ) → Type 0
ReadBehind said old new (Ok line) words = (line_read said words ≡ Ok line) × IsCounted new (said.calls ++ line ∷ [])
ReadBehind said old new (Err cause) words = (line_read said words ≡ Err cause) × (new ≡ old)

-- the same of each session that the numbers tell of
abbrev pub NextCall : ℕ → List FontView → ℕ → List ℕ → List ℕ → Result CallLine Cause → List (List ℕ) → Type 0
NextCall clients fonts images old new read words = (said : Session) → IsBehind clients fonts images old said → ReadBehind said old new read words

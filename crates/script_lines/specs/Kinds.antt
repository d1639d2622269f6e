-- The kinds of calls, and what the words of a line make of one, whatever calls stand before it.
use Rattle.std.specs.Prelude.{ℕ, List, [], ◌∷◌, drop, Result, Ok, Err}
use Rattle.glyph_masks.specs.Glyphs.{FontView}
use Rattle.script_grammar.specs.Judging.{◌⊛◌}
use Rattle.script_grammar.specs.Words.{declared_read}
use Rattle.script_grammar.specs.Lines.{CallForm, call_forms, call_by}
use Rattle.script_grammar.specs.declared.lines.CallLine.{CallLine}
use Rattle.script_grammar.specs.declared.lines.Cause.{Cause}
use Rattle.script_grammar.specs.declared.lines.Cause.TheVariants.{Form}

abbrev pub all_forms : List FontView → ℕ → List CallForm
all_forms fonts images = call_forms fonts images

-- all but those of windows
abbrev pub cursor_forms : List FontView → ℕ → List CallForm
cursor_forms fonts images = drop 6 (call_forms fonts images)

-- all but those of windows and the cursor
abbrev pub channel_forms : List FontView → ℕ → List CallForm
channel_forms fonts images = drop 9 (call_forms fonts images)

-- the paints
abbrev pub paint_forms : List FontView → ℕ → List CallForm
paint_forms fonts images = drop 14 (call_forms fonts images)

-- a client, a kind and its words
abbrev pub call_line_read : ℕ → List FontView → ℕ → List (List ℕ) → Result CallLine Cause
call_line_read clients fonts images [] = Err Form
call_line_read clients fonts images (client ∷ []) = Err Form
call_line_read clients fonts images (client ∷ kind ∷ words) = Ok (λ client call. record { client = client; call = call }) ⊛ declared_read clients client ⊛ call_by (call_forms fonts images) kind words

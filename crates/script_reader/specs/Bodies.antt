-- The fonts, images and calls behind the head, as the reader keeps them.
use Rattle.std.specs.Prelude.{ℕ, ◌≡◌, Bool, true, false, List, [], ◌∷◌, length, Result, Ok, Err}
use Rattle.std.specs.List.{flat_map}
use lib.Chars.{codes}
use Rattle.std.specs.Str.{bytes_eq}
use Rattle.script_grammar.specs.Session.{Session, fonts_of, images_of}
use Rattle.script_grammar.specs.Limits.{IsSession}
use Rattle.script_grammar.specs.Printing.{ended_line}
use Rattle.script_grammar.specs.Reading.{Before, Within, Finished, asset_in, call_in, line_in, text_in, last_in, script_of}
use Rattle.script_grammar.specs.Judging.{◌or_else◌}
use Rattle.script_grammar.specs.declared.lines.Cause.{Cause}
use Rattle.script_lines.specs.Counted.{IsCounted}
use Rattle.script_reader.specs.Places.{call_places}
use Rattle.script_reader.specs.Heads.{head_of}
use Rattle.script_reader.specs.declared.heads.Head.{Head}
use Rattle.script_reader.specs.declared.bodies.Body.{Body}
use Rattle.script_reader.specs.ReadTo.{lines_so_far}

-- what is kept is that of a session with this head
pub record IsBodyOf (head : Head) (body : Body) (said : Session) : Type 0 where
  pub same_head : head_of said ≡ head
  pub same_fonts : fonts_of said.assets ≡ body.fonts.items
  pub same_images : images_of said.assets ≡ body.images.items
  pub counted : IsCounted body.counts said.calls
  pub places : body.places.items ≡ call_places said

-- the same is kept
pub record IsSameBody (old new : Body) : Type 0 where
  pub fonts : new.fonts.items ≡ old.fonts.items
  pub images : new.images.items ≡ old.images.items
  pub counts : new.counts ≡ old.counts
  pub places : new.places.items ≡ old.places.items

-- the words of the line `end`
abbrev pub is_end_line : List (List ℕ) → Bool
is_end_line [] = false
is_end_line (word ∷ []) = bytes_eq word (codes "end")
is_end_line (word ∷ next ∷ words) = false

-- one line more was judged: it is the last, it says more, or it has a cause
abbrev pub BodyReads : Head → Body → Session → Result Before Cause → Result Bool Cause → Type 0
BodyReads head body said judged (Ok true) = (judged ≡ Ok (Finished said)) × IsBodyOf head body said
BodyReads head body said judged (Ok false) = (next : Session) × (judged ≡ Ok (Within next)) × IsBodyOf head body next
BodyReads head body said judged (Err cause) = judged ≡ Err cause

-- a line that begins there, behind whatever is kept
abbrev pub JudgesLine : (Session → Result Before Cause) → Head → ℕ → Body → Body → Result Bool Cause → Type 0
JudgesLine judge head start old new read = (said : Session) → IsSession said → IsBodyOf head old said → start ≡ length (flat_map ended_line (lines_so_far said)) → BodyReads head new said (judge said) read

abbrev pub call_by_words : List (List ℕ) → Session → Result Before Cause
call_by_words words said = call_in said words

-- a line that isn't `end`
abbrev pub unended_by_words : List (List ℕ) → Session → Result Before Cause
unended_by_words words said = asset_in said words or_else call_in said words

abbrev pub line_by_words : List (List ℕ) → Session → Result Before Cause
line_by_words words said = line_in (Within said) words

abbrev pub line_by_text : List ℕ → Session → Result Before Cause
line_by_text text said = text_in (Within said) text

-- the last line, which isn't ended, behind whatever is kept: it has a cause
abbrev pub JudgesLast : Head → ℕ → List ℕ → Body → Cause → Type 0
JudgesLast head start rest old cause = (said : Session) → IsSession said → IsBodyOf head old said → start ≡ length (flat_map ended_line (lines_so_far said)) → last_in (Within said) rest ≡ Err cause

-- what is kept is that of the session that the bytes say
pub record IsFound (bytes : List ℕ) (head : Head) (body : Body) : Type 0 where
  pub said : Session
  pub reads : script_of bytes ≡ Ok said
  pub kept : IsBodyOf head body said

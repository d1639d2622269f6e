-- What the bytes of a script say, line by line, or the first bad line and its first cause.
use Rattle.std.specs.Prelude.{ℕ, ◌+◌, Bool, ◌==◌, List, [], ◌∷◌, ◌++◌, length, Result, Ok, Err, if◌then◌else◌}
use lib.Chars.{codes}
use Rattle.std.specs.List.{list_any, slice_split}
use Rattle.std.specs.Str.{bytes_eq}
use Rattle.qws_base.specs.Sides.{Sides}
use Rattle.qws_base.specs.declared.colours.Depth.{Depth}
use Rattle.qws_base.specs.declared.colours.Depth.TheVariants.{Full, Narrow}
use Rattle.script_grammar.specs.Judging.{◌>>=◌, ◌or_else◌}
use Rattle.script_grammar.specs.Spelling.{words_of}
use Rattle.script_grammar.specs.Session.{Session, Asset}
use Rattle.script_grammar.specs.declared.lines.CallLine.{CallLine}
use Rattle.script_grammar.specs.Lines.{depth_read, screen_read, clients_read, asset_read, line_read}
use Rattle.script_grammar.specs.declared.lines.Cause.{Cause}
use Rattle.script_grammar.specs.declared.lines.Cause.TheVariants.{Form, End}

-- what stands before a line: nothing; a line `depth`; a line `screen`; the head and more, which say so much; or all, with
-- the line `end`
pub data Before : Type 0 where
  Nothing : Before
  Deep : Depth → Before
  Sized : Depth → Sides → ℕ → Before
  Within : Session → Before
  Finished : Session → Before

abbrev pub sized : Depth → Sides × ℕ → Before
sized depth screen = Sized depth screen.0 screen.1

abbrev pub begun : Depth → Sides → ℕ → ℕ → Before
begun depth size backdrop clients = Within (record { depth = depth; size = size; backdrop = backdrop; clients = clients; assets = []; calls = [] })

abbrev pub and_asset : Session → Asset → Before
and_asset said asset = Within (record said { assets = said.assets ++ asset ∷ [] })

abbrev pub and_call : Session → CallLine → Before
and_call said line = Within (record said { calls = said.calls ++ line ∷ [] })

-- fonts and images stand before the calls
abbrev pub asset_in : Session → List (List ℕ) → Result Before Cause
asset_in said words = if length said.calls == 0 then (asset_read said.assets words >>= λ asset. Ok (and_asset said asset)) else Err Form

abbrev pub call_in : Session → List (List ℕ) → Result Before Cause
call_in said words = line_read said words >>= λ line. Ok (and_call said line)

-- `end`
abbrev pub end_in : Session → List (List ℕ) → Result Before Cause
end_in said [] = Err Form
end_in said (word ∷ []) = if bytes_eq word (codes "end") then Ok (Finished said) else Err Form
end_in said (word ∷ more ∷ words) = Err Form

-- the forms that may stand there, and what stands before the next line
unfoldable pub line_in : Before → List (List ℕ) → Result Before Cause
line_in Nothing words = (depth_read words >>= λ depth. Ok (Deep depth)) or_else (screen_read words >>= λ screen. Ok (sized Full screen))
line_in (Deep depth) words = screen_read words >>= λ screen. Ok (sized depth screen)
line_in (Sized depth size backdrop) words = clients_read words >>= λ clients. Ok (begun depth size backdrop clients)
line_in (Within said) words = end_in said words or_else asset_in said words or_else call_in said words
line_in (Finished said) words = Err End

abbrev pub is_blank : List ℕ → Bool
is_blank word = length word == 0

-- a line by its words: a blank in a wrong place makes an empty word, and so does an empty line
abbrev pub by_words : Before → List ℕ → Result Before Cause
by_words before text = if list_any is_blank (words_of text) then Err Form else line_in before (words_of text)

-- a line: behind `end` there is none, whatever it says
unfoldable pub text_in : Before → List ℕ → Result Before Cause
text_in Nothing text = by_words Nothing text
text_in (Deep depth) text = by_words (Deep depth) text
text_in (Sized depth size backdrop) text = by_words (Sized depth size backdrop) text
text_in (Within said) text = by_words (Within said) text
text_in (Finished said) text = Err End

-- what is said where the bytes end behind a line feed
abbrev pub said_at_end : Before → Result Session Cause
said_at_end Nothing = Err End
said_at_end (Deep depth) = Err End
said_at_end (Sized depth size backdrop) = Err End
said_at_end (Within said) = Err End
said_at_end (Finished said) = Ok said

-- the last line, which isn't ended: an empty one is none, and any other is judged first
abbrev pub last_in : Before → List ℕ → Result Session Cause
last_in before [] = said_at_end before
last_in before (c ∷ text) = text_in before (c ∷ text) >>= λ after. Err End

-- a cause with the number of its line
abbrev pub at_line : {A : Type 0} → ℕ → Result A Cause → Result A (ℕ × Cause)
at_line n (Ok x) = Ok x
at_line n (Err cause) = Err (n, cause)

abbrev pub and_then : Result Before (ℕ × Cause) → (Before → Result Session (ℕ × Cause)) → Result Session (ℕ × Cause)
and_then (Ok after) next = next after
and_then (Err bad) next = Err bad

-- from line n on: the lines, with the last that isn't ended
unfoldable pub script_from : ℕ → Before → List (List ℕ) → Result Session (ℕ × Cause)
script_from n before [] = Err (n, End)
script_from n before (text ∷ []) = at_line n (last_in before text)
script_from n before (text ∷ next ∷ lines) = and_then (at_line n (text_in before text)) (λ after. script_from (n + 1) after (next ∷ lines))

-- the parts between line feeds; the last part is the line that isn't ended
abbrev pub text_lines : List ℕ → List (List ℕ)
text_lines bytes = slice_split (λ c. c == 10) bytes

-- the session, or the first bad line, counted from 1, with its first cause
unfoldable pub script_of : List ℕ → Result Session (ℕ × Cause)
script_of bytes = script_from 1 Nothing (text_lines bytes)

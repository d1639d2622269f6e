-- What is printed so far.
use Rattle.std.specs.Prelude.{ℕ, ◌≡◌, List, ◌++◌, map}
use Rattle.std.specs.List.{flat_map}
use Rattle.script_grammar.specs.Printing.{head_lines, asset_words, line_words, ended_line}
use Rattle.script_grammar.specs.declared.lines.CallLine.{CallLine}
use Rattle.session_maker.specs.Made.{Lines, made_assets, made_session}

-- the text before the calls, which neither seed nor calls change
abbrev pub head_text : ℕ → List ℕ
head_text clients = flat_map ended_line (head_lines (made_session 0 clients 0) ++ map asset_words made_assets)

-- the text of call lines
unfoldable pub calls_text : List CallLine → List ℕ
calls_text calls = flat_map ended_line (map line_words calls)

-- the text of these lines stands behind a head, and the state is theirs
pub record AreAdded (head : List ℕ) (lines : Lines) (text : List ℕ) (state : ℕ) : Type 0 where
  pub text_is : text ≡ head ++ calls_text lines.calls
  pub state_is : state ≡ lines.state

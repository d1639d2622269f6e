-- The session that is made from a seed, a number of clients and a number of calls for each.
use Rattle.std.specs.Prelude.{ℕ, zero, suc, List, [], ◌∷◌, ◌++◌}
use Rattle.qws_base.specs.declared.colours.Depth.TheVariants.{Full}
use Rattle.script_grammar.specs.Session.{Session, Asset, FontLine, GlyphLine, ImageLine}
use Rattle.script_grammar.specs.Printing.{line_words, ended_line}
use Rattle.script_grammar.specs.declared.lines.CallLine.{CallLine}
use Rattle.script_grammar.specs.declared.lines.LineCall.{LineCall}
use Rattle.session_maker.specs.Kinds.{Drawn, call_drawn}

-- call lines, and the state behind their draws
pub record Lines : Type 0 where
  pub calls : List CallLine
  pub state : ℕ

-- with a client's call
abbrev pub with_drawn : ℕ → Drawn → Lines → Lines
with_drawn client made lines = record { calls = lines.calls ++ record { client = client; call = made.call } ∷ []; state = made.state }

-- with the first calls of a client, so many
abbrev pub with_calls : ℕ → ℕ → Lines → Lines
with_calls client zero lines = lines
with_calls client (suc k) lines = with_drawn client (call_drawn client k (with_calls client k lines).state) (with_calls client k lines)

-- the lines of the first clients, so many: client 0's calls, then client 1's and so on, with one state running on
abbrev pub first_clients : ℕ → ℕ → ℕ → Lines
first_clients seed calls zero = record { calls = []; state = seed }
first_clients seed calls (suc client) = with_calls client calls (first_clients seed calls client)

-- one font with one glyph, and one image
abbrev pub made_assets : List Asset
made_assets =
    FontLine 3
    ∷ GlyphLine (record { code = 65; width = 3; rows = 2 ∷ 7 ∷ 5 ∷ [] })
    ∷ ImageLine (record { w = 2; h = 2; pixels = 0xff102030 ∷ 0xff405060 ∷ 0xff708090 ∷ 0xffa0b0c0 ∷ [] })
    ∷ []

abbrev pub made_session : ℕ → ℕ → ℕ → Session
made_session seed clients calls = record {
  depth = Full;
  size = record { w = 320; h = 240 };
  backdrop = 0x204060;
  clients = clients;
  assets = made_assets;
  calls = (first_clients seed calls clients).calls;
}

-- the text of a client's line
abbrev pub line_text : ℕ → LineCall → List ℕ
line_text client call = ended_line (line_words (record { client = client; call = call }))

abbrev pub call_text : ℕ → Drawn → List ℕ
call_text client made = line_text client made.call

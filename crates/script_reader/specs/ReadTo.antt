-- How far bytes are read.
use Rattle.std.specs.Prelude.{ℕ, ◌≡◌, ◌+◌, ◌≤◌, List, [], ◌++◌, map, length}
use Rattle.std.specs.List.{flat_map}
use Rattle.script_grammar.specs.Session.{Session}
use Rattle.script_grammar.specs.Limits.{IsSession}
use Rattle.script_grammar.specs.Printing.{head_lines, asset_words, line_words, ended_line}
use Rattle.script_grammar.specs.Reading.{Within, script_from, text_lines, script_of}
use Rattle.script_reader.specs.declared.heads.Head.{Head}

-- a session that has a head alone
abbrev pub headed : Head → Session
headed head = record { depth = head.depth; size = head.size; backdrop = head.backdrop; clients = head.clients; assets = []; calls = [] }

abbrev pub lines_so_far : Session → List (List (List ℕ))
lines_so_far said = head_lines said ++ map asset_words said.assets ++ map line_words said.calls

-- so much was said in the lines before line n, and the rest is to come
pub record IsReadTo (bytes : List ℕ) (said : Session) (n : ℕ) (rest : List ℕ) : Type 0 where
  pub reads : script_of bytes ≡ script_from n (Within said) (text_lines rest)
  pub text : bytes ≡ flat_map ended_line (lines_so_far said) ++ rest
  pub limits : IsSession said
  pub number : n + length rest ≤ length bytes + 1

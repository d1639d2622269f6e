-- Where a script ends among more bytes.
use Rattle.std.specs.Prelude.{ℕ, ◌≡◌, List, ◌++◌, length}
use Rattle.script_grammar.specs.Session.{Session}
use Rattle.script_grammar.specs.Limits.{IsSession}
use Rattle.script_grammar.specs.Printing.{script_text}
use Rattle.script_grammar.specs.Reading.{text_lines}
use Rattle.script_reader.specs.Cuts.{through_end}

-- behind a script the first line `end` is the script's last
abbrev pub EndsWithScript : Type 0
EndsWithScript = (said : Session) (more : List ℕ) → IsSession said → through_end (text_lines (script_text said ++ more)) ≡ length (script_text said)

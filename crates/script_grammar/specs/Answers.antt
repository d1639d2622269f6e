-- What the reader answers.
use Rattle.std.specs.Prelude.{ℕ, ◌≡◌, Result, Ok, Err, ⊤}
use Rattle.script_grammar.specs.Session.{Session}
use Rattle.script_grammar.specs.declared.lines.Cause.{Cause}
use Rattle.script_grammar.specs.declared.lines.ScriptStop.{ScriptStop}
use Rattle.script_grammar.specs.declared.lines.ScriptStop.TheVariants.{Bad, OutOfMemory}

-- the session exactly where the bytes say it, the first bad line and its cause exactly where they don't; of a want of memory
-- nothing is known
abbrev pub ReaderAnswers : Result Session ScriptStop → Result Session (ℕ × Cause) → Type 0
ReaderAnswers (Ok session) said = said ≡ Ok session
ReaderAnswers (Err (Bad line cause)) said = said ≡ Err (line, cause)
ReaderAnswers (Err OutOfMemory) said = ⊤

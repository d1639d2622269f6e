-- What a run of a script in threads comes to.
use Rattle.std.specs.Prelude.{ℕ, ◌≡◌, List, Result, Ok, Err, Option, None, Some}
use Rattle.server_desk.specs.DeskViews.{ClosedView}
use Rattle.session_journal.specs.Grammar.{IsFile}
use Rattle.session_journal.specs.declared.files.File.{File}
use Rattle.script_grammar.specs.Session.{Session}
use Rattle.script_grammar.specs.declared.lines.Cause.{Cause}
use Rattle.session_replay.specs.Files.{IsFileOf}
use Rattle.session_run.specs.Sessions.{IsRunFile}
use Rattle.program_outputs.specs.Texts.{bad_line_text}

-- the bytes are the file of the session's run, which is closed; or they have a first bad line
abbrev pub IsRan : Result Session (ℕ × Cause) → ℕ → List ℕ → Option ClosedView → Type 0
IsRan (Ok said) status text kept = (status ≡ 0) × (closed : ClosedView) × (kept ≡ Some closed) × IsRunFile said text closed
IsRan (Err (line, cause)) status text kept = (status ≡ 1) × (text ≡ bad_line_text line cause) × (kept ≡ None)

-- the bytes are a file of the session
pub record IsHolding (said : Session) (text : List ℕ) : Type 0 where
  pub file : File
  pub is_file : IsFile text file
  pub run : IsFileOf said file

-- What each form of the program writes for the bytes that it read, and the status.
use Rattle.std.specs.Prelude.{ℕ, ◌≡◌, ◌≤◌, ◌*◌, ◌⊎◌, ◌↔◌, List, take, drop, length, Result, Ok, Err}
use Rattle.session_journal.specs.Texts.{file_bytes}
use Rattle.session_journal.specs.Grammar.{IsFile, IsOnlyFile, LeavesAt}
use Rattle.session_journal.specs.declared.files.File.{File}
use Rattle.script_grammar.specs.Session.{Session}
use Rattle.script_grammar.specs.Printing.{script_text}
use Rattle.script_grammar.specs.Reading.{text_lines}
use Rattle.script_grammar.specs.declared.lines.Cause.{Cause}
use Rattle.script_reader.specs.Cuts.{through_end}
use Rattle.session_replay.specs.Runs.{in_order}
use Rattle.session_replay.specs.Files.{file_of, IsFileOf}
use Rattle.session_replay.specs.Verdicts.{IsVerdict}
use Rattle.session_replay.specs.declared.verdicts.Verdict.{Verdict}
use Rattle.session_replay.specs.declared.verdicts.Verdict.TheVariants.{Holds}
use Rattle.session_maker.specs.Made.{made_session}
use Rattle.program_words.specs.declared.forms.Load.{Load}
use Rattle.program_outputs.specs.Texts.{bad_line_text, bad_byte_text, verdict_text, verdict_status, tried_text}

-- ---- `run`

-- The file of the history that its comment lines name, and this is a run of the session. With at most one client it is that of
-- the calls in the order of their lines.
pub record IsRunText (said : Session) (text : List ℕ) : Type 0 where
  pub file : File
  pub is_file : IsFile text file
  pub run : IsFileOf said file
  pub ordered : said.clients ≤ 1 → text ≡ file_bytes (file_of said (in_order said))

-- the bytes are a script, or have a first bad line
abbrev pub IsRunOutput : Result Session (ℕ × Cause) → ℕ → List ℕ → Type 0
IsRunOutput (Ok said) status text = (status ≡ 0) × IsRunText said text
IsRunOutput (Err (line, cause)) status text = (status ≡ 1) × (text ≡ bad_line_text line cause)

-- ---- `check`

-- the bytes up to and with the first line `end`, and those behind it
abbrev pub script_part : List ℕ → List ℕ
script_part bytes = take (through_end (text_lines bytes)) bytes

abbrev pub file_part : List ℕ → List ℕ
file_part bytes = drop (through_end (text_lines bytes)) bytes

-- the bytes are no file
pub record IsNoFile (bytes : List ℕ) (status : ℕ) (text : List ℕ) : Type 0 where
  pub at : ℕ
  pub leaves : LeavesAt bytes at
  pub status_is : status ≡ 1
  pub text_is : text ≡ bad_byte_text at

-- the bytes are a file, with one verdict
pub record IsJudged (said : Session) (bytes : List ℕ) (status : ℕ) (text : List ℕ) : Type 0 where
  pub file : File
  pub verdict : Verdict
  pub is_file : IsFile bytes file
  pub only : IsOnlyFile bytes file
  pub is_verdict : IsVerdict said file verdict
  pub one : (other : Verdict) → IsVerdict said file other → other ≡ verdict
  pub holds : (verdict ≡ Holds) ↔ IsFileOf said file
  pub status_is : status ≡ verdict_status verdict
  pub text_is : text ≡ verdict_text (length file.lines) verdict

-- of a script and the bytes behind it
abbrev pub IsCheckOutput : Result Session (ℕ × Cause) → List ℕ → ℕ → List ℕ → Type 0
IsCheckOutput (Ok said) bytes status text = IsNoFile bytes status text ⊎ IsJudged said bytes status text
IsCheckOutput (Err (line, cause)) bytes status text = (status ≡ 1) × (text ≡ bad_line_text line cause)

-- ---- `make` and `trial`

abbrev pub load_session : Load → Session
load_session load = made_session load.seed load.clients load.calls

abbrev pub make_text : Load → List ℕ
make_text load = script_text (load_session load)

abbrev pub trial_text : Load → List ℕ
trial_text load = tried_text load.clients (load.clients * load.calls)

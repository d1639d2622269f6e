-- What each other status of the program says.
use Rattle.std.specs.Prelude.{ℕ, ◌≡◌, ◌<◌, ◌≤◌, ◌⊎◌, List, [], ◌++◌, length, IsOk, IsErr, Option, None, Some, ⊤, Ok, Err}
use Rattle.qws_base.specs.Outside.{with_bytes, WritesFront}
use Rattle.session_journal.specs.Grammar.{IsFile, LeavesAt}
use Rattle.session_journal.specs.declared.files.File.{File}
use Rattle.script_grammar.specs.Session.{Session}
use Rattle.script_grammar.specs.Reading.{script_of}
use Rattle.script_grammar.specs.declared.lines.Cause.{Cause}
use Rattle.session_replay.specs.Files.{IsFileOf}
use Rattle.session_replay.specs.Verdicts.{IsVerdict}
use Rattle.session_replay.specs.declared.verdicts.Verdict.{Verdict}
use Rattle.session_replay.specs.declared.verdicts.Verdict.TheVariants.{Holds}
use Rattle.program_outputs.specs.Texts.{bad_line_text, bad_byte_text, verdict_text}
use Rattle.program_words.specs.declared.forms.Form.{Form}
use Rattle.program_outputs.specs.Outputs.{script_part, file_part}
use Rattle.qws_demo.specs.Due.{IsDue}

-- ---- bytes of a source

-- where the source tells its bytes, this holds of them
abbrev pub WhereTold : (List ℕ → Type 0) → Option (List ℕ) → Type 0
WhereTold P None = ⊤
WhereTold P (Some bytes) = P bytes

-- it tells them, and this holds of them
abbrev pub IsToldThat : (List ℕ → Type 0) → Option (List ℕ) → Type 0
IsToldThat P None = ⊥
IsToldThat P (Some bytes) = P bytes

-- more bytes than a limit
abbrev pub IsMore : ℕ → List ℕ → Type 0
IsMore limit bytes = limit < length bytes

-- within a limit, and of a kind
pub record IsWithin (limit : ℕ) (P : List ℕ → Type 0) (bytes : List ℕ) : Type 0 where
  pub within : length bytes ≤ limit
  pub is : P bytes

abbrev pub IsScript : List ℕ → Type 0
IsScript bytes = IsOk (script_of bytes)

abbrev pub IsNoScript : List ℕ → Type 0
IsNoScript bytes = IsErr (script_of bytes)

-- a script, and no file behind it
pub record IsWithoutFile (bytes : List ℕ) : Type 0 where
  pub script : IsOk (script_of (script_part bytes))
  pub no_file : (file : File) → ¬ IsFile (file_part bytes) file

-- no script at the front, or no file behind it
abbrev pub IsNoPair : List ℕ → Type 0
IsNoPair bytes = IsErr (script_of (script_part bytes)) ⊎ IsWithoutFile bytes

-- a script, and behind it a file of a run of it
pub record IsPair (bytes : List ℕ) : Type 0 where
  pub session : Session
  pub spelled : script_of (script_part bytes) ≡ Ok session
  pub file : File
  pub is_file : IsFile (file_part bytes) file
  pub run : IsFileOf session file

-- a script, and behind it a file of another session
pub record IsOtherPair (bytes : List ℕ) : Type 0 where
  pub session : Session
  pub spelled : script_of (script_part bytes) ≡ Ok session
  pub file : File
  pub is_file : IsFile (file_part bytes) file
  pub no_run : ¬ IsFileOf session file

-- ---- what is written

-- where the source tells its bytes, a text of that kind was written for them
abbrev pub WritesWhere : (List ℕ → List ℕ → Type 0) → Option (List ℕ) → Option (List ℕ) → Option (List ℕ) → Type 0
WritesWhere P None before now = ⊤
WritesWhere P (Some bytes) before now = (text : List ℕ) × (now ≡ with_bytes text before) × P bytes text

-- the bytes are a script and a file of a run of it, whose number of entries is told
pub record IsHeld (limit : ℕ) (bytes text : List ℕ) : Type 0 where
  pub within : length bytes ≤ limit
  pub pair : IsPair bytes
  pub text_is : text ≡ verdict_text (length pair.file.lines) Holds

-- the bytes have a first bad line, which is told with its cause
pub record IsBadScript (bytes text : List ℕ) : Type 0 where
  pub line : ℕ
  pub cause : Cause
  pub bad : script_of bytes ≡ Err (line, cause)
  pub text_is : text ≡ bad_line_text line cause

-- a script, and the place at which the bytes behind it stop being a file, which is told
pub record IsBadFile (bytes text : List ℕ) : Type 0 where
  pub script : IsOk (script_of (script_part bytes))
  pub at : ℕ
  pub leaves : LeavesAt (file_part bytes) at
  pub text_is : text ≡ bad_byte_text at

abbrev pub WritesBadScript : ℕ → List ℕ → List ℕ → Type 0
WritesBadScript limit bytes text = (length bytes ≤ limit) × IsBadScript bytes text

abbrev pub WritesBadPair : ℕ → List ℕ → List ℕ → Type 0
WritesBadPair limit bytes text = (length bytes ≤ limit) × (IsBadScript (script_part bytes) text ⊎ IsBadFile bytes text)

-- a script and a file, and what is wrong with the file first, which is told
pub record IsDiffering (limit : ℕ) (bytes text : List ℕ) : Type 0 where
  pub within : length bytes ≤ limit
  pub session : Session
  pub spelled : script_of (script_part bytes) ≡ Ok session
  pub file : File
  pub is_file : IsFile (file_part bytes) file
  pub verdict : Verdict
  pub is_verdict : IsVerdict session file verdict
  pub no_run : ¬ IsFileOf session file
  pub text_is : text ≡ verdict_text (length file.lines) verdict

-- a prefix of the text that is due was written
pub record WritesPart (form : Option Form) (left before now : Option (List ℕ)) : Type 0 where
  pub status : ℕ
  pub text : List ℕ
  pub due : IsDue form left status text
  pub part : WritesFront text before now

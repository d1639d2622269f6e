-- The headline: what the program has read and written where it ends with status 0 and the word `run`.
use Rattle.std.specs.Prelude.{ℕ, ◌≡◌, ◌≤◌, List, [], ◌++◌, length, Option, None, Some, ⊤, Ok}
use Rattle.session_journal.specs.Texts.{file_bytes}
use Rattle.session_journal.specs.Grammar.{IsFile}
use Rattle.session_journal.specs.declared.files.File.{File}
use Rattle.script_grammar.specs.Session.{Session}
use Rattle.script_grammar.specs.Reading.{script_of}
use Rattle.session_replay.specs.Runs.{in_order}
use Rattle.session_replay.specs.Files.{file_of, IsFileOf}

-- The bytes that were read are at most that many and spell a script. What was written is the file of the history that its comment
-- lines name, and this is a legal history with each client's calls once and in order and no others. With at most one client it is
-- that of the calls in the order of their lines.
pub record Shows (limit : ℕ) (read written : List ℕ) : Type 0 where
  pub within : length read ≤ limit
  pub session : Session
  pub spelled : script_of read ≡ Ok session
  pub file : File
  pub is_file : IsFile written file
  pub run : IsFileOf session file
  pub ordered : session.clients ≤ 1 → written ≡ file_bytes (file_of session (in_order session))

-- Where source and sink tell their bytes: what was left before and is left now, and what was written before and by now.
abbrev pub Headline : ℕ → Option (List ℕ) → Option (List ℕ) → Option (List ℕ) → Option (List ℕ) → Type 0
Headline limit None left before now = ⊤
Headline limit (Some bytes) left None now = ⊤
Headline limit (Some bytes) left (Some before) now = (written : List ℕ) × (now ≡ Some (before ++ written)) × (left ≡ Some []) × Shows limit bytes written

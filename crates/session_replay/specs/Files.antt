-- The file of a history, and the history that a file's comments name.
use Rattle.std.specs.Prelude.{ℕ, ◌≡◌, List, map}
use Rattle.qws_base.specs.Histories.{Entry, world_after}
use Rattle.qws_base.specs.Shown.{shown_picture}
use Rattle.session_journal.specs.Texts.{told_call, file_of_entries}
use Rattle.session_journal.specs.Commented.{commented_client}
use Rattle.session_journal.specs.declared.files.File.{File}
use Rattle.script_grammar.specs.Session.{Session, session_setting}
use Rattle.session_replay.specs.Runs.{named, IsRunOf}

-- the picture that is shown after a history of a session
abbrev pub shown_after : Session → List Entry → List ℕ
shown_after session h =
    let setting = session_setting session in
    let world = world_after setting h in
    shown_picture setting world.state.cursor world.scene

-- the file of a history of a session
abbrev pub file_of : Session → List Entry → File
file_of session h = file_of_entries session.size (map told_call h) (shown_after session h)

-- the history that comment lines name: each stands for the next call of the client that it names
abbrev pub named_by : Session → List (List ℕ) → List Entry
named_by session lines = named session (map commented_client lines)

-- the file is that of the history that its comment lines name, and that is a run of the session
pub record IsFileOf (session : Session) (file : File) : Type 0 where
  pub file_is : file ≡ file_of session (named_by session file.lines)
  pub run : IsRunOf session (named_by session file.lines)

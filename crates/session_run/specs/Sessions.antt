-- What a session on threads leaves.
use Rattle.std.specs.Prelude.{◌≡◌, ◌≤◌, List, ℕ}
use Rattle.qws_base.specs.Histories.{Entry}
use Rattle.fb_words.specs.declared.known.Client.{Client}
use Rattle.server_desk.specs.DeskViews.{ClosedView}
use Rattle.server_desk.specs.Sessions.{IsSessionOf, history_in}
use Rattle.script_grammar.specs.Session.{Session, session_setting}
use Rattle.session_journal.specs.Grammar.{IsFile}
use Rattle.session_journal.specs.Texts.{file_bytes}
use Rattle.session_replay.specs.Runs.{IsRunOf, in_order}
use Rattle.session_replay.specs.Files.{file_of, IsFileOf}

-- Some clients' calls, merged with the journal, are a run of the script, and the closed session is theirs: its books are their
-- paints, and its picture is the one that is shown after the run.
pub record IsClosedRun (said : Session) (closed : ClosedView) : Type 0 where
  pub clients : List Client
  pub session : IsSessionOf (session_setting said) clients closed
  pub run : IsRunOf said (history_in closed.journal clients)

-- The bytes are the file of that run, whose comment lines name it. With at most one client it is the run in the order of the lines.
pub record IsRunFile (said : Session) (bytes : List ℕ) (closed : ClosedView) : Type 0 where
  pub kept : IsClosedRun said closed
  pub file : IsFile bytes (file_of said (history_in closed.journal kept.clients))
  pub text : bytes ≡ file_bytes (file_of said (history_in closed.journal kept.clients))
  pub ordered : said.clients ≤ 1 → history_in closed.journal kept.clients ≡ in_order said
  pub named : IsFileOf said (file_of said (history_in closed.journal kept.clients))

-- Laws of runs, files and verdicts.
use Rattle.std.specs.Prelude.{◌≡◌, ◌<◌, ◌≤◌, ◌*◌, ◌^◌, ◌↔◌, List, map, length}
use Rattle.qws_base.specs.Points.{pixel_count}
use Rattle.qws_base.specs.Histories.{Entry, client_of_entry}
use Rattle.session_journal.specs.Texts.{told_call, comments}
use Rattle.session_journal.specs.declared.files.File.{File}
use Rattle.script_grammar.specs.Session.{Session}
use Rattle.session_replay.specs.Runs.{in_order, IsRunOf}
use Rattle.session_replay.specs.Files.{shown_after, file_of, named_by, IsFileOf}
use Rattle.session_replay.specs.Verdicts.{IsVerdict}
use Rattle.session_replay.specs.declared.verdicts.Verdict.{Verdict}
use Rattle.session_replay.specs.declared.verdicts.Verdict.TheVariants.{Holds}

-- the comments of a history name it, so its file is that of the history that its comment lines name
pub record IsNamed (session : Session) (h : List Entry) : Type 0 where
  pub named : named_by session (comments (map told_call h)) ≡ h
  pub file : IsFileOf session (file_of session h)
  pub few : length h < 2 ^ 32
  pub pixels : length (shown_after session h) ≡ pixel_count session.size

-- so it is for every run, in whichever order the clients make their calls
abbrev pub RunsAreNamed : Session → Type 0
RunsAreNamed session = (h : List Entry) → IsRunOf session h → IsNamed session h

-- The history in the order of the lines is the one run whose calls stand in that order. Where there is at most one client, it
-- is the only run.
pub record IsInOrder (session : Session) : Type 0 where
  pub run : IsRunOf session (in_order session)
  pub order : map client_of_entry (in_order session) ≡ map (λ line. line.client) session.calls
  pub only : (h : List Entry) → IsRunOf session h → map client_of_entry h ≡ map (λ line. line.client) session.calls → h ≡ in_order session
  pub alone : session.clients ≤ 1 → (h : List Entry) → IsRunOf session h → h ≡ in_order session

-- no file has two verdicts
abbrev pub OneVerdict : Session → Type 0
OneVerdict session = (file : File) (one two : Verdict) → IsVerdict session file one → IsVerdict session file two → one ≡ two

-- a file holds exactly where it is the file of the run that its comment lines name, if it has three bytes a pixel
abbrev pub HoldsForRuns : Session → Type 0
HoldsForRuns session = (file : File) → length file.raster ≡ 3 * pixel_count file.size → IsVerdict session file Holds ↔ IsFileOf session file

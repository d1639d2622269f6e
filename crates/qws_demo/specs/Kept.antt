-- The closed session that is kept of a run in threads.
use Rattle.std.specs.Prelude.{ℕ, ◌≡◌, ◌≤◌, List, [], ◌++◌, length, Option, None, Some, ⊤, Ok}
use Rattle.server_desk.specs.DeskViews.{ClosedView}
use Rattle.script_grammar.specs.Session.{Session}
use Rattle.script_grammar.specs.Reading.{script_of}
use Rattle.session_run.specs.Sessions.{IsClosedRun, IsRunFile}

-- The bytes that were read spell a script, and what was written is the file of a run of it, which is the merge of the journal and
-- the books of the closed session that is kept.
pub record ShowsKept (limit : ℕ) (read written : List ℕ) (kept : Option ClosedView) : Type 0 where
  pub within : length read ≤ limit
  pub session : Session
  pub spelled : script_of read ≡ Ok session
  pub closed : ClosedView
  pub kept_is : kept ≡ Some closed
  pub file : IsRunFile session written closed

-- where source and sink tell their bytes
abbrev pub KeepsShown : ℕ → Option (List ℕ) → Option (List ℕ) → Option (List ℕ) → Option (List ℕ) → Option ClosedView → Type 0
KeepsShown limit None left before now kept = ⊤
KeepsShown limit (Some bytes) left None now kept = ⊤
KeepsShown limit (Some bytes) left (Some before) now kept = (written : List ℕ) × (now ≡ Some (before ++ written)) × (left ≡ Some []) × ShowsKept limit bytes written kept

-- a closed session is kept whose journal and books merge to a run of the session
abbrev pub IsKeptOf : Session → Option ClosedView → Type 0
IsKeptOf said kept = (closed : ClosedView) × (kept ≡ Some closed) × IsClosedRun said closed

-- of some session
abbrev pub IsKept : Option ClosedView → Type 0
IsKept kept = (said : Session) × IsKeptOf said kept

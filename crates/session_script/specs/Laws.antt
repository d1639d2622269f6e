-- Laws of a client's calls.
use Rattle.std.specs.Prelude.{ℕ, ◌≡◌, ◌↔◌, List, length}
use Rattle.qws_base.specs.Histories.{Entry}
use Rattle.script_grammar.specs.Session.{Session, lines_by}
use Rattle.session_script.specs.Calls.{IsWhole, IsFront}

-- the whole list are the first calls where there are as many as the client's lines
abbrev pub WholeWhereAll : Type 0
WholeWhereAll = (said : Session) (entries : List Entry) (client : ℕ) → IsWhole said entries client ↔ (IsFront said entries client × (length entries ≡ length (lines_by client said.calls)))

-- When entries are the calls of a client: each line's call once and in order, with its reply. The entries are the client's own,
-- in their order.
use Rattle.std.specs.Prelude.{ℕ, ◌≡◌, ◌+◌, List, [], ◌∷◌, ⊤}
use Rattle.qws_base.specs.Histories.{Entry}
use Rattle.qws_base.specs.Histories.Entry.{Step as StepEntry, Paint as PaintEntry}
use Rattle.gfx_painters.specs.Paints.{paint_sheet}
use Rattle.script_grammar.specs.Session.{Session, lines_by}
use Rattle.script_grammar.specs.declared.lines.CallLine.{CallLine}
use Rattle.script_names.specs.Naming.{Naming, no_names, learned_by_entry, names_after}
use Rattle.script_names.specs.Meaning.{meaning}
use Rattle.script_names.specs.declared.calls.Call.{Call}
use Rattle.script_names.specs.declared.calls.Call.TheVariants.{Step, Paint}

-- the names that a client has given, with these entries for the first of its calls
abbrev pub names_by : Session → List Entry → ℕ → Naming
names_by said entries client = names_after no_names (lines_by client said.calls) entries

-- the entry is that call of the client, with any reply; a paint has its call number as tag
abbrev pub IsCallOf : ℕ → ℕ → Call → Entry → Type 0
IsCallOf client k (Step command) (StepEntry c made reply) = (c ≡ client) × (made ≡ command)
IsCallOf client k (Step command) (PaintEntry c slot tag sheet reply) = ⊥
IsCallOf client k (Paint slot paint) (StepEntry c made reply) = ⊥
IsCallOf client k (Paint slot paint) (PaintEntry c painted tag sheet reply) = (c ≡ client) × (painted ≡ slot) × (tag ≡ k) × (sheet ≡ paint_sheet paint)

-- from call k on: each line has an entry, and each entry a line; each entry is what its line means after the replies before it
abbrev pub IsCallsFrom : Session → ℕ → ℕ → Naming → List CallLine → List Entry → Type 0
IsCallsFrom said client k slots [] [] = ⊤
IsCallsFrom said client k slots [] (e ∷ entries) = ⊥
IsCallsFrom said client k slots (line ∷ lines) [] = ⊥
IsCallsFrom said client k slots (line ∷ lines) (e ∷ entries) =
    IsCallOf client k (meaning said slots line.call) e × IsCallsFrom said client (k + 1) (learned_by_entry slots line.call e) lines entries

-- the same where lines may be left behind the last entry
abbrev pub IsFrontFrom : Session → ℕ → ℕ → Naming → List CallLine → List Entry → Type 0
IsFrontFrom said client k slots [] [] = ⊤
IsFrontFrom said client k slots [] (e ∷ entries) = ⊥
IsFrontFrom said client k slots (line ∷ lines) [] = ⊤
IsFrontFrom said client k slots (line ∷ lines) (e ∷ entries) =
    IsCallOf client k (meaning said slots line.call) e × IsFrontFrom said client (k + 1) (learned_by_entry slots line.call e) lines entries

-- the entries are the whole list of the client's calls in the script
abbrev pub IsWhole : Session → List Entry → ℕ → Type 0
IsWhole said entries client = IsCallsFrom said client 0 no_names (lines_by client said.calls) entries

-- the entries are the first of the client's calls in the script, as many as they are
abbrev pub IsFront : Session → List Entry → ℕ → Type 0
IsFront said entries client = IsFrontFrom said client 0 no_names (lines_by client said.calls) entries

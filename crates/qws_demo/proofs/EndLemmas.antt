-- From the writing of a text to an end of the program.
use Rattle.std.proofs.Common.{◌≡◌, ◌<◌, ◌≤◌, ℕ, List, [], length, Option, None, Some, Result, Ok, Err, refl, ap, sym, ◌∙◌, subst, inl, inr, arith}
use Rattle.std.specs.Prelude.{◌⊎◌}
use Rattle.qws_base.specs.Outside.{with_bytes, HadMoreThan, IsAll}
use Rattle.qws_base.specs.Histories.{Entry}
use Rattle.server_desk.specs.DeskViews.{ClosedView}
use Rattle.server_desk.specs.Sessions.{history_in}
use Rattle.session_journal.specs.Texts.{file_bytes}
use Rattle.session_replay.specs.Files.{file_of}
use Rattle.session_run.specs.Sessions.{IsRunFile}
use Rattle.program_runs.specs.Runs.{IsRan}
use Rattle.script_grammar.specs.Session.{Session}
use Rattle.script_grammar.specs.Reading.{script_of}
use Rattle.script_grammar.specs.declared.lines.Cause.{Cause}
use Rattle.session_replay.specs.declared.verdicts.Verdict.{Verdict}
use Rattle.session_replay.specs.declared.verdicts.Verdict.TheVariants.{Holds, BadScreen, BadEntry, BadPixel}
use Rattle.program_words.specs.declared.forms.Form.{Form}
use Rattle.program_words.specs.declared.forms.Form.TheVariants.{Run, Check}
use Rattle.program_outputs.specs.Texts.{long_text, verdict_status}
use Rattle.program_outputs.specs.Outputs.{script_part, file_part, IsRunText, IsNoFile, IsJudged, IsRunOutput, IsCheckOutput}
use Rattle.qws_demo.specs.Due.{run_limit, check_limit, IsRunOf, IsCheckOf, IsDueFor, IsDueAt, IsRunStatus, IsCheckStatus, IsDue, Reads, IsReadWhole}
use Rattle.qws_demo.specs.Ends.{Seen, IsEnd, IsWritten, IsBroken, IsFinish}
use Rattle.qws_demo.specs.Kept.{ShowsKept, KeepsShown, IsKeptOf, IsKept}

-- ---- statuses

run_status : (r : Result Session (ℕ × Cause)) (status : ℕ) (text : List ℕ) → IsRunOutput r status text → IsRunStatus status text
run_status (Ok said) status text h = inl h.0
run_status (Err (line, cause)) status text h = inr (inl h.0)

verdict_told : (v : Verdict) (text : List ℕ) → IsCheckStatus (verdict_status v) text
verdict_told Holds text = inr (inl refl)
verdict_told (BadScreen w h) text = inl refl
verdict_told (BadEntry line) text = inl refl
verdict_told (BadPixel index) text = inl refl

file_status : (said : Session) (bytes : List ℕ) (status : ℕ) (text : List ℕ) → IsNoFile bytes status text ⊎ IsJudged said bytes status text → IsCheckStatus status text
file_status said bytes status text (inl none) = inr (inr (inl none.status_is))
file_status said bytes status text (inr judged) = subst (λ (n : ℕ). IsCheckStatus n text) (sym judged.status_is) (verdict_told judged.verdict text)

check_status : (r : Result Session (ℕ × Cause)) (bytes : List ℕ) (status : ℕ) (text : List ℕ) → IsCheckOutput r bytes status text → IsCheckStatus status text
check_status (Ok said) bytes status text h = file_status said bytes status text h
check_status (Err (line, cause)) bytes status text h = inr (inr (inl h.0))

-- ---- what is due

due_at : (limit : ℕ) (IsOutput : List ℕ → ℕ → List ℕ → Type 0) (left rest : Option (List ℕ)) (bytes : List ℕ) (status : ℕ) (text : List ℕ) → IsAll left bytes rest → length bytes ≤ limit → IsOutput bytes status text → IsDueAt limit IsOutput left status text
due_at limit IsOutput None rest bytes status text all few is = tt
due_at limit IsOutput (Some told) rest bytes status text all few is =
    subst (λ (b : List ℕ). IsDueFor limit IsOutput b status text) (sym all.0) (record { long = λ more. absurd (omega arith); within = λ _. is })

long_at : (limit : ℕ) (IsOutput : List ℕ → ℕ → List ℕ → Type 0) (left : Option (List ℕ)) → HadMoreThan limit left → IsDueAt limit IsOutput left 6 long_text
long_at limit IsOutput None more = tt
long_at limit IsOutput (Some told) more = record { long = λ _. (refl, refl); within = λ few. absurd (omega arith) }

due_run : (left rest : Option (List ℕ)) (bytes : List ℕ) (status : ℕ) (text : List ℕ) → IsAll left bytes rest → length bytes ≤ run_limit → IsRunOf bytes status text → IsDue (Some Run) left status text
due_run left rest bytes status text all few is = (run_status (script_of bytes) status text is, due_at run_limit IsRunOf left rest bytes status text all few is)

due_check : (left rest : Option (List ℕ)) (bytes : List ℕ) (status : ℕ) (text : List ℕ) → IsAll left bytes rest → length bytes ≤ check_limit → IsCheckOf bytes status text → IsDue (Some Check) left status text
due_check left rest bytes status text all few is = (check_status (script_of (script_part bytes)) (file_part bytes) status text is, due_at check_limit IsCheckOf left rest bytes status text all few is)

-- ---- ends

pub finished : (form : Option Form) (seen : Seen) (status : ℕ) (text : List ℕ) (result : ℕ) → IsDue form seen.left status text → (status ≡ 0 → Reads form → IsReadWhole seen.left seen.rest) → seen.read_faults_now ≡ seen.read_faults → IsFinish status text result seen.written seen.written_now seen.write_faults seen.write_faults_now → IsEnd form result seen
finished form seen status text result due whole well (inl done) = inl (record {
  text = text;
  due = subst (λ (n : ℕ). IsDue form seen.left n text) (sym done.status_is) due;
  whole = λ zero. whole (sym done.status_is ∙ zero);
  written = done.written;
  read_well = well;
  wrote_well = done.wrote_well;
})
finished form seen status text result due whole well (inr broken) = inr (inr (inl (record {
  status_is = broken.status_is;
  due_status = status;
  text = text;
  due = due;
  part = broken.part;
  fault = broken.fault;
  read_well = well;
})))

whole_of : (left rest : Option (List ℕ)) (bytes : List ℕ) → IsAll left bytes rest → IsReadWhole left rest
whole_of None rest bytes all = tt
whole_of (Some told) rest bytes all = all.1

pub run_ends : (seen : Seen) (bytes : List ℕ) (status : ℕ) (text : List ℕ) (result : ℕ) → IsAll seen.left bytes seen.rest → length bytes ≤ run_limit → IsRunOf bytes status text → seen.read_faults_now ≡ seen.read_faults → IsFinish status text result seen.written seen.written_now seen.write_faults seen.write_faults_now → IsEnd (Some Run) result seen
run_ends seen bytes status text result all few is well done =
    finished (Some Run) seen status text result (due_run seen.left seen.rest bytes status text all few is) (λ _ _. whole_of seen.left seen.rest bytes all) well done

pub check_ends : (seen : Seen) (bytes : List ℕ) (status : ℕ) (text : List ℕ) (result : ℕ) → IsAll seen.left bytes seen.rest → length bytes ≤ check_limit → IsCheckOf bytes status text → seen.read_faults_now ≡ seen.read_faults → IsFinish status text result seen.written seen.written_now seen.write_faults seen.write_faults_now → IsEnd (Some Check) result seen
check_ends seen bytes status text result all few is well done =
    finished (Some Check) seen status text result (due_check seen.left seen.rest bytes status text all few is) (λ _ _. whole_of seen.left seen.rest bytes all) well done

pub long_run : (seen : Seen) (result : ℕ) → HadMoreThan run_limit seen.left → seen.read_faults_now ≡ seen.read_faults → IsFinish 6 long_text result seen.written seen.written_now seen.write_faults seen.write_faults_now → IsEnd (Some Run) result seen
long_run seen result more well done = finished (Some Run) seen 6 long_text result (inr (inr (refl, refl)), long_at run_limit IsRunOf seen.left more) (λ zero. absurd (omega arith)) well done

pub long_check : (seen : Seen) (result : ℕ) → HadMoreThan check_limit seen.left → seen.read_faults_now ≡ seen.read_faults → IsFinish 6 long_text result seen.written seen.written_now seen.write_faults seen.write_faults_now → IsEnd (Some Check) result seen
long_check seen result more well done = finished (Some Check) seen 6 long_text result (inr (inr (inr (refl, refl))), long_at check_limit IsCheckOf seen.left more) (λ zero. absurd (omega arith)) well done

-- ---- a run that was kept

-- what is kept of a run, and what is written of it
run_text : (said : Session) (text : List ℕ) (closed : ClosedView) → IsRunFile said text closed → IsRunText said text
run_text said text closed run = record {
  file = file_of said (history_in closed.journal run.kept.clients);
  is_file = run.file;
  run = run.named;
  ordered = λ few. run.text ∙ ap (λ (h : List Entry). file_bytes (file_of said h)) (run.ordered few);
}

pub ran_output : (r : Result Session (ℕ × Cause)) (status : ℕ) (text : List ℕ) (kept : Option ClosedView) → IsRan r status text kept → IsRunOutput r status text
ran_output (Ok said) status text kept ran = (ran.0, run_text said text ran.1 ran.3)
ran_output (Err (line, cause)) status text kept ran = (ran.0, ran.1)

-- a text with status 0 was written whole
whole_zero : (status : ℕ) (text : List ℕ) (result : ℕ) (before now : Option (List ℕ)) (faults faults_now : ℕ) → IsFinish status text result before now faults faults_now → result ≡ 0 → (status ≡ 0) × (now ≡ with_bytes text before)
whole_zero status text result before now faults faults_now (inl done) zero = (sym done.status_is ∙ zero, done.written)
whole_zero status text result before now faults faults_now (inr broken) zero = absurd (let h : 4 ≡ 0 = sym broken.status_is ∙ zero in omega arith)

shown_by : (bytes text : List ℕ) (r : Result Session (ℕ × Cause)) (kept : Option ClosedView) → script_of bytes ≡ r → length bytes ≤ run_limit → IsRan r 0 text kept → ShowsKept run_limit bytes text kept
shown_by bytes text (Ok said) kept is few ran = record { within = few; session = said; spelled = is; closed = ran.1; kept_is = ran.2; file = ran.3 }
shown_by bytes text (Err (line, cause)) kept is few ran = absurd (let h : 0 ≡ 1 = ran.0 in omega arith)

keeps_by : (left rest before now : Option (List ℕ)) (bytes text : List ℕ) (kept : Option ClosedView) → IsAll left bytes rest → length bytes ≤ run_limit → IsRan (script_of bytes) 0 text kept → now ≡ with_bytes text before → KeepsShown run_limit left rest before now kept
keeps_by None rest before now bytes text kept all few ran written = tt
keeps_by (Some told) rest None now bytes text kept all few ran written = tt
keeps_by (Some told) rest (Some old) now bytes text kept all few ran written =
    (text, written, all.1, subst (λ (b : List ℕ). ShowsKept run_limit b text kept) (sym all.0) (shown_by bytes text (script_of bytes) kept refl few ran))

pub run_shown : (left rest before now : Option (List ℕ)) (faults faults_now : ℕ) (bytes text : List ℕ) (status result : ℕ) (kept : Option ClosedView) → IsAll left bytes rest → length bytes ≤ run_limit → IsRan (script_of bytes) status text kept → IsFinish status text result before now faults faults_now → result ≡ 0 → KeepsShown run_limit left rest before now kept
run_shown left rest before now faults faults_now bytes text status result kept all few ran done zero =
    let whole = whole_zero status text result before now faults faults_now done zero in
    keeps_by left rest before now bytes text kept all few (subst (λ (n : ℕ). IsRan (script_of bytes) n text kept) whole.0 ran) whole.1

kept_zero : (r : Result Session (ℕ × Cause)) (text : List ℕ) (kept : Option ClosedView) → IsRan r 0 text kept → IsKept kept
kept_zero (Ok said) text kept ran = (said, (ran.1, ran.2, ran.3.kept))
kept_zero (Err (line, cause)) text kept ran = absurd (let h : 0 ≡ 1 = ran.0 in omega arith)

pub run_keeps : (before now : Option (List ℕ)) (faults faults_now : ℕ) (r : Result Session (ℕ × Cause)) (text : List ℕ) (status result : ℕ) (kept : Option ClosedView) → IsRan r status text kept → IsFinish status text result before now faults faults_now → result ≡ 0 → IsKept kept
run_keeps before now faults faults_now r text status result kept ran done zero =
    let whole = whole_zero status text result before now faults faults_now done zero in
    kept_zero r text kept (subst (λ (n : ℕ). IsRan r n text kept) whole.0 ran)

-- What an end says of each form, clause by clause.
use Rattle.std.proofs.Common.{◌≡◌, ◌∙◌, ◌<◌, ◌≤◌, ℕ, List, [], ◌++◌, length, Option, None, Some, Result, Ok, Err, refl, sym, ap, subst, inl, inr, arith}
use Rattle.std.specs.Prelude.{◌⊎◌, ◌↔◌, IsOk, IsErr, ⊤}
use Rattle.qws_base.specs.Outside.{Rose, HadMoreThan, with_bytes, WritesFront}
use Rattle.script_grammar.specs.Session.{Session}
use Rattle.script_grammar.specs.Reading.{script_of}
use Rattle.script_grammar.specs.declared.lines.Cause.{Cause}
use Rattle.session_journal.specs.Grammar.{IsFile}
use Rattle.session_journal.specs.declared.files.File.{File}
use Rattle.session_replay.specs.Files.{IsFileOf}
use Rattle.session_replay.specs.declared.verdicts.Verdict.{Verdict}
use Rattle.session_replay.specs.declared.verdicts.Verdict.TheVariants.{Holds, BadScreen, BadEntry, BadPixel}
use Rattle.program_outputs.specs.Texts.{verdict_status, verdict_text}
use Rattle.program_outputs.specs.Outputs.{script_part, file_part, IsNoFile, IsJudged, IsRunOutput, IsCheckOutput}
use Rattle.qws_demo.specs.Due.{IsDueFor, IsDueAt, IsRunOf, IsCheckOf, IsReadWhole, run_limit, check_limit}
use Rattle.qws_demo.specs.Statuses.{IsHeld, IsBadScript, IsBadFile, IsDiffering, IsPair, IsOtherPair, IsWithoutFile, IsNoPair}
use Rattle.qws_demo.proofs.Told.{due_within}

-- ---- verdicts

held_status : (v : Verdict) → verdict_status v ≡ 0 → v ≡ Holds
held_status Holds h = refl
held_status (BadScreen w h2) h = absurd (omega arith)
held_status (BadEntry line) h = absurd (omega arith)
held_status (BadPixel index) h = absurd (omega arith)

never_one : (v : Verdict) → ¬ (verdict_status v ≡ 1)
never_one Holds h = omega arith
never_one (BadScreen w h2) h = omega arith
never_one (BadEntry line) h = omega arith
never_one (BadPixel index) h = omega arith

other_status : (v : Verdict) → ¬ (v ≡ Holds) → verdict_status v ≡ 7
other_status Holds other = absurd (other refl)
other_status (BadScreen w h) other = refl
other_status (BadEntry line) other = refl
other_status (BadPixel index) other = refl

-- ---- `run`

run_bad : (bytes text : List ℕ) (r : Result Session (ℕ × Cause)) → script_of bytes ≡ r → IsRunOutput r 1 text → IsBadScript bytes text
run_bad bytes text (Ok said) is out = absurd (let h : 1 ≡ 0 = out.0 in omega arith)
run_bad bytes text (Err (line, cause)) is out = record { line = line; cause = cause; bad = is; text_is = out.1 }

pub bad_script : (bytes text : List ℕ) → IsRunOf bytes 1 text → IsBadScript bytes text
bad_script bytes text out = run_bad bytes text (script_of bytes) refl out

pub run_good : (r : Result Session (ℕ × Cause)) (status : ℕ) (text : List ℕ) → IsOk r → IsRunOutput r status text → status ≡ 0
run_good (Ok said) status text good out = out.0
run_good (Err (line, cause)) status text good out = absurd (cc)

pub run_none : (r : Result Session (ℕ × Cause)) (status : ℕ) (text : List ℕ) → IsErr r → IsRunOutput r status text → status ≡ 1
run_none (Ok said) status text bad out = absurd (cc)
run_none (Err (line, cause)) status text bad out = out.0

-- ---- `check`

pair_held : (bytes text : List ℕ) (r : Result Session (ℕ × Cause)) → script_of (script_part bytes) ≡ r → length bytes ≤ check_limit → IsCheckOutput r (file_part bytes) 0 text → IsHeld check_limit bytes text
pair_held bytes text (Ok said) is few (inl none) = absurd (let h : 0 ≡ 1 = none.status_is in omega arith)
pair_held bytes text (Ok said) is few (inr judged) =
    let holds : judged.verdict ≡ Holds = held_status judged.verdict (sym judged.status_is) in
    record {
      within = few;
      pair = record { session = said; spelled = is; file = judged.file; is_file = judged.is_file; run = judged.holds.0 holds };
      text_is = judged.text_is ∙ ap (λ (v : Verdict). verdict_text (length judged.file.lines) v) holds;
    }
pair_held bytes text (Err (line, cause)) is few out = absurd (let h : 0 ≡ 1 = out.0 in omega arith)

pub held : (bytes text : List ℕ) → length bytes ≤ check_limit → IsCheckOf bytes 0 text → IsHeld check_limit bytes text
held bytes text few out = pair_held bytes text (script_of (script_part bytes)) refl few out

pair_bad : (bytes text : List ℕ) (r : Result Session (ℕ × Cause)) → script_of (script_part bytes) ≡ r → IsCheckOutput r (file_part bytes) 1 text → IsBadScript (script_part bytes) text ⊎ IsBadFile bytes text
pair_bad bytes text (Ok said) is (inl none) = inr (record { script = subst IsOk (sym is) refl; at = none.at; leaves = none.leaves; text_is = none.text_is })
pair_bad bytes text (Ok said) is (inr judged) = absurd (never_one judged.verdict (sym judged.status_is))
pair_bad bytes text (Err (line, cause)) is out = inl (record { line = line; cause = cause; bad = is; text_is = out.1 })

pub bad_pair : (bytes text : List ℕ) → IsCheckOf bytes 1 text → IsBadScript (script_part bytes) text ⊎ IsBadFile bytes text
bad_pair bytes text out = pair_bad bytes text (script_of (script_part bytes)) refl out

pair_differs : (bytes text : List ℕ) (r : Result Session (ℕ × Cause)) → script_of (script_part bytes) ≡ r → length bytes ≤ check_limit → IsCheckOutput r (file_part bytes) 7 text → IsDiffering check_limit bytes text
pair_differs bytes text (Ok said) is few (inl none) = absurd (let h : 7 ≡ 1 = none.status_is in omega arith)
pair_differs bytes text (Ok said) is few (inr judged) = record {
  within = few;
  session = said;
  spelled = is;
  file = judged.file;
  is_file = judged.is_file;
  verdict = judged.verdict;
  is_verdict = judged.is_verdict;
  no_run = λ run. let h : 7 ≡ 0 = judged.status_is ∙ ap verdict_status (judged.holds.1 run) in omega arith;
  text_is = judged.text_is;
}
pair_differs bytes text (Err (line, cause)) is few out = absurd (let h : 7 ≡ 1 = out.0 in omega arith)

pub differs : (bytes text : List ℕ) → length bytes ≤ check_limit → IsCheckOf bytes 7 text → IsDiffering check_limit bytes text
differs bytes text few out = pair_differs bytes text (script_of (script_part bytes)) refl few out

file_good : (said : Session) (bytes : List ℕ) (status : ℕ) (text : List ℕ) (file : File) → IsFile bytes file → IsFileOf said file → IsNoFile bytes status text ⊎ IsJudged said bytes status text → status ≡ 0
file_good said bytes status text file is run (inl none) = absurd (none.leaves.no_file file is)
file_good said bytes status text file is run (inr judged) =
    judged.status_is ∙ ap verdict_status (judged.holds.1 (subst (λ (f : File). IsFileOf said f) (judged.only file is) run))

pub pair_good : (bytes : List ℕ) (status : ℕ) (text : List ℕ) → IsPair bytes → IsCheckOf bytes status text → status ≡ 0
pair_good bytes status text pair out =
    file_good pair.session (file_part bytes) status text pair.file pair.is_file pair.run (subst (λ (r : Result Session (ℕ × Cause)). IsCheckOutput r (file_part bytes) status text) pair.spelled out)

file_other : (said : Session) (bytes : List ℕ) (status : ℕ) (text : List ℕ) (file : File) → IsFile bytes file → ¬ IsFileOf said file → IsNoFile bytes status text ⊎ IsJudged said bytes status text → status ≡ 7
file_other said bytes status text file is no_run (inl none) = absurd (none.leaves.no_file file is)
file_other said bytes status text file is no_run (inr judged) =
    judged.status_is ∙ other_status judged.verdict (λ h. no_run (subst (λ (f : File). IsFileOf said f) (sym (judged.only file is)) (judged.holds.0 h)))

pub pair_other : (bytes : List ℕ) (status : ℕ) (text : List ℕ) → IsOtherPair bytes → IsCheckOf bytes status text → status ≡ 7
pair_other bytes status text pair out =
    file_other pair.session (file_part bytes) status text pair.file pair.is_file pair.no_run (subst (λ (r : Result Session (ℕ × Cause)). IsCheckOutput r (file_part bytes) status text) pair.spelled out)

file_none : (r : Result Session (ℕ × Cause)) (bytes : List ℕ) (status : ℕ) (text : List ℕ) → IsOk r → ((file : File) → ¬ IsFile bytes file) → IsCheckOutput r bytes status text → status ≡ 1
file_none (Ok said) bytes status text good no_file (inl none) = none.status_is
file_none (Ok said) bytes status text good no_file (inr judged) = absurd (no_file judged.file judged.is_file)
file_none (Err (line, cause)) bytes status text good no_file out = out.0

script_none : (r : Result Session (ℕ × Cause)) (bytes : List ℕ) (status : ℕ) (text : List ℕ) → IsErr r → IsCheckOutput r bytes status text → status ≡ 1
script_none (Ok said) bytes status text bad out = absurd (cc)
script_none (Err (line, cause)) bytes status text bad out = out.0

pub pair_none : (bytes : List ℕ) (status : ℕ) (text : List ℕ) → IsNoPair bytes → IsCheckOf bytes status text → status ≡ 1
pair_none bytes status text (inl bad) out = script_none (script_of (script_part bytes)) (file_part bytes) status text bad out
pair_none bytes status text (inr none) out = file_none (script_of (script_part bytes)) (file_part bytes) status text none.script none.no_file out

-- What an end says, for the words that were given.
use Rattle.std.proofs.Common.{◌≡◌, ◌∙◌, ◌<◌, ◌≤◌, ℕ, List, length, Option, None, Some, Result, Ok, Err, refl, sym, subst, inl, inr, arith}
use Rattle.std.specs.Prelude.{◌⊎◌, IsSome, IsOk, IsErr}
use Rattle.qws_base.specs.Outside.{Rose, HadMoreThan}
use Rattle.script_grammar.specs.Session.{Session}
use Rattle.script_grammar.specs.Reading.{script_of}
use Rattle.script_grammar.specs.declared.lines.Cause.{Cause}
use Rattle.session_replay.specs.declared.verdicts.Verdict.{Verdict}
use Rattle.session_replay.specs.declared.verdicts.Verdict.TheVariants.{Holds, BadScreen, BadEntry, BadPixel}
use Rattle.program_words.specs.declared.forms.Form.{Form}
use Rattle.program_words.specs.declared.forms.Form.TheVariants.{Run, Check, Make, Trial}
use Rattle.program_words.specs.declared.forms.Load.{Load}
use Rattle.program_outputs.specs.Texts.{verdict_status}
use Rattle.program_outputs.specs.Outputs.{script_part, file_part, IsNoFile, IsJudged, IsRunOutput, IsCheckOutput}
use Rattle.qws_demo.specs.Due.{IsDueAt, IsRunOf, IsCheckOf, IsDue, Reads, run_limit, check_limit}
use Rattle.qws_demo.specs.Ends.{Seen, IsTold, IsEnd}
use Rattle.qws_demo.specs.Statuses.{WritesWhere, IsHeld, WritesBadScript, WritesBadPair, IsDiffering, IsToldThat, IsMore, IsWithin, IsScript, IsNoScript, IsNoPair, IsPair, IsOtherPair}
use Rattle.qws_demo.proofs.Told.{told_end, well_end, limit_cases, told_where}
use Rattle.qws_demo.proofs.Clauses.{bad_script, held, bad_pair, differs, run_good, run_none, pair_good, pair_other, pair_none}

-- the end of a form and a status
told_at : (form other : Option Form) (status s : ℕ) (seen : Seen) → IsEnd form status seen → form ≡ other → status ≡ s → ¬ (s ≡ 3) → ¬ (s ≡ 4) → ¬ (s ≡ 5) → IsTold other s seen
told_at form other status s seen end is at a b c =
    told_end other s seen (subst (λ (f : Option Form). IsEnd f s seen) is (subst (λ (n : ℕ). IsEnd form n seen) at end)) a b c

pub says_held : (form : Option Form) (status : ℕ) (seen : Seen) → IsEnd form status seen → status ≡ 0 → form ≡ Some Check → WritesWhere (IsHeld check_limit) seen.left seen.written seen.written_now
says_held form status seen end at is =
    let told = told_at form (Some Check) status 0 seen end is at (λ h. omega arith) (λ h. omega arith) (λ h. omega arith) in
    told_where check_limit IsCheckOf (IsHeld check_limit) seen.left seen.written seen.written_now 0 told.text (λ bytes few out. held bytes told.text few out) told.due.1 (λ h. omega arith) told.written

pub says_bad_script : (form : Option Form) (status : ℕ) (seen : Seen) → IsEnd form status seen → status ≡ 1 → form ≡ Some Run → WritesWhere (WritesBadScript run_limit) seen.left seen.written seen.written_now
says_bad_script form status seen end at is =
    let told = told_at form (Some Run) status 1 seen end is at (λ h. omega arith) (λ h. omega arith) (λ h. omega arith) in
    told_where run_limit IsRunOf (WritesBadScript run_limit) seen.left seen.written seen.written_now 1 told.text (λ bytes few out. (few, bad_script bytes told.text out)) told.due.1 (λ h. omega arith) told.written

pub says_bad_pair : (form : Option Form) (status : ℕ) (seen : Seen) → IsEnd form status seen → status ≡ 1 → form ≡ Some Check → WritesWhere (WritesBadPair check_limit) seen.left seen.written seen.written_now
says_bad_pair form status seen end at is =
    let told = told_at form (Some Check) status 1 seen end is at (λ h. omega arith) (λ h. omega arith) (λ h. omega arith) in
    told_where check_limit IsCheckOf (WritesBadPair check_limit) seen.left seen.written seen.written_now 1 told.text (λ bytes few out. (few, bad_pair bytes told.text out)) told.due.1 (λ h. omega arith) told.written

-- status 7 is one of `check` alone
seven_form : (form : Option Form) (left : Option (List ℕ)) (text : List ℕ) → IsDue form left 7 text → form ≡ Some Check
seven_form None left text due = absurd (let h : 7 ≡ 2 = due.0 in omega arith)
seven_form (Some Run) left text (inl h, due) = absurd (let e : 7 ≡ 0 = h in omega arith)
seven_form (Some Run) left text (inr (inl h), due) = absurd (let e : 7 ≡ 1 = h in omega arith)
seven_form (Some Run) left text (inr (inr h), due) = absurd (let e : 7 ≡ 6 = h.0 in omega arith)
seven_form (Some Check) left text due = refl
seven_form (Some (Make load)) left text due = absurd (let h : 7 ≡ 0 = due.0 in omega arith)
seven_form (Some (Trial load)) left text due = absurd (let h : 7 ≡ 0 = due.0 in omega arith)

pub says_check : (form : Option Form) (status : ℕ) (seen : Seen) → IsEnd form status seen → status ≡ 7 → form ≡ Some Check
says_check form status seen end at =
    let told = told_at form form status 7 seen end refl at (λ h. omega arith) (λ h. omega arith) (λ h. omega arith) in
    seven_form form seen.left told.text told.due

pub says_differs : (form : Option Form) (status : ℕ) (seen : Seen) → IsEnd form status seen → status ≡ 7 → WritesWhere (IsDiffering check_limit) seen.left seen.written seen.written_now
says_differs form status seen end at =
    let told = told_at form (Some Check) status 7 seen end (says_check form status seen end at) at (λ h. omega arith) (λ h. omega arith) (λ h. omega arith) in
    told_where check_limit IsCheckOf (IsDiffering check_limit) seen.left seen.written seen.written_now 7 told.text (λ bytes few out. differs bytes told.text few out) told.due.1 (λ h. omega arith) told.written

-- ---- more bytes than the limit

run_not_six : (r : Result Session (ℕ × Cause)) (text : List ℕ) → ¬ IsRunOutput r 6 text
run_not_six (Ok said) text out = let h : 6 ≡ 0 = out.0 in omega arith
run_not_six (Err (line, cause)) text out = let h : 6 ≡ 1 = out.0 in omega arith

never_six : (v : Verdict) → ¬ (verdict_status v ≡ 6)
never_six Holds h = omega arith
never_six (BadScreen w h2) h = omega arith
never_six (BadEntry line) h = omega arith
never_six (BadPixel index) h = omega arith

check_not_six : (r : Result Session (ℕ × Cause)) (bytes text : List ℕ) → ¬ IsCheckOutput r bytes 6 text
check_not_six (Ok said) bytes text (inl none) = let h : 6 ≡ 1 = none.status_is in omega arith
check_not_six (Ok said) bytes text (inr judged) = never_six judged.verdict (sym judged.status_is)
check_not_six (Err (line, cause)) bytes text out = let h : 6 ≡ 1 = out.0 in omega arith

more_at : (limit : ℕ) (O : List ℕ → ℕ → List ℕ → Type 0) (left : Option (List ℕ)) (text : List ℕ) → ((bytes : List ℕ) → ¬ O bytes 6 text) → IsDueAt limit O left 6 text → HadMoreThan limit left
more_at limit O None text never due = tt
more_at limit O (Some bytes) text never due = elim (limit_cases (length bytes) limit) as (λ _. limit < length bytes) [ inl few ↦ absurd (never bytes (due.within few)) | inr more ↦ more ]

pub says_long_script : (form : Option Form) (status : ℕ) (seen : Seen) → IsEnd form status seen → status ≡ 6 → form ≡ Some Run → HadMoreThan run_limit seen.left
says_long_script form status seen end at is =
    let told = told_at form (Some Run) status 6 seen end is at (λ h. omega arith) (λ h. omega arith) (λ h. omega arith) in
    more_at run_limit IsRunOf seen.left told.text (λ bytes. run_not_six (script_of bytes) told.text) told.due.1

pub says_long_pair : (form : Option Form) (status : ℕ) (seen : Seen) → IsEnd form status seen → status ≡ 6 → form ≡ Some Check → HadMoreThan check_limit seen.left
says_long_pair form status seen end at is =
    let told = told_at form (Some Check) status 6 seen end is at (λ h. omega arith) (λ h. omega arith) (λ h. omega arith) in
    more_at check_limit IsCheckOf seen.left told.text (λ bytes. check_not_six (script_of (script_part bytes)) (file_part bytes) told.text) told.due.1

-- ---- which status comes

-- for bytes of a kind the status is that one
due_status : (limit s : ℕ) (O : List ℕ → ℕ → List ℕ → Type 0) (P : List ℕ → Type 0) (left : Option (List ℕ)) (status : ℕ) (text : List ℕ) → ((bytes : List ℕ) → P bytes → O bytes status text → status ≡ s) → IsToldThat (IsWithin limit P) left → IsDueAt limit O left status text → status ≡ s
due_status limit s O P None status text says that due = absurd that
due_status limit s O P (Some bytes) status text says that due = says bytes that.is (due.within that.within)

due_more : (limit : ℕ) (O : List ℕ → ℕ → List ℕ → Type 0) (left : Option (List ℕ)) (status : ℕ) (text : List ℕ) → IsToldThat (IsMore limit) left → IsDueAt limit O left status text → status ≡ 6
due_more limit O None status text that due = absurd that
due_more limit O (Some bytes) status text that due = (due.long that).0

-- a form, without faults
well_at : (form other : Option Form) (status s : ℕ) (seen : Seen) → IsEnd form status seen → form ≡ other → ¬ (Rose seen.read_faults seen.read_faults_now) → ¬ (Rose seen.write_faults seen.write_faults_now) → ((text : List ℕ) → IsDue other seen.left status text → status ≡ s) → (status ≡ s) ⊎ (status ≡ 5)
well_at form other status s seen end is a b says =
    elim (well_end other status seen (subst (λ (f : Option Form). IsEnd f status seen) is end) (λ both. a both.1) b) as (λ _. (status ≡ s) ⊎ (status ≡ 5)) [ inl told ↦ inl (says told.text told.due) | inr five ↦ inr five ]

pub complete_run : (form : Option Form) (status : ℕ) (seen : Seen) → IsEnd form status seen → form ≡ Some Run → IsToldThat (IsWithin run_limit IsScript) seen.left → ¬ (Rose seen.read_faults seen.read_faults_now) → ¬ (Rose seen.write_faults seen.write_faults_now) → (status ≡ 0) ⊎ (status ≡ 5)
complete_run form status seen end is that a b =
    well_at form (Some Run) status 0 seen end is a b (λ text due. due_status run_limit 0 IsRunOf IsScript seen.left status text (λ bytes good out. run_good (script_of bytes) status text good out) that due.1)

pub told_bad_script : (form : Option Form) (status : ℕ) (seen : Seen) → IsEnd form status seen → form ≡ Some Run → IsToldThat (IsWithin run_limit IsNoScript) seen.left → ¬ (Rose seen.read_faults seen.read_faults_now) → ¬ (Rose seen.write_faults seen.write_faults_now) → (status ≡ 1) ⊎ (status ≡ 5)
told_bad_script form status seen end is that a b =
    well_at form (Some Run) status 1 seen end is a b (λ text due. due_status run_limit 1 IsRunOf IsNoScript seen.left status text (λ bytes bad out. run_none (script_of bytes) status text bad out) that due.1)

pub told_long_script : (form : Option Form) (status : ℕ) (seen : Seen) → IsEnd form status seen → form ≡ Some Run → IsToldThat (IsMore run_limit) seen.left → ¬ (Rose seen.read_faults seen.read_faults_now) → ¬ (Rose seen.write_faults seen.write_faults_now) → (status ≡ 6) ⊎ (status ≡ 5)
told_long_script form status seen end is that a b = well_at form (Some Run) status 6 seen end is a b (λ text due. due_more run_limit IsRunOf seen.left status text that due.1)

pub complete_check : (form : Option Form) (status : ℕ) (seen : Seen) → IsEnd form status seen → form ≡ Some Check → IsToldThat (IsWithin check_limit IsPair) seen.left → ¬ (Rose seen.read_faults seen.read_faults_now) → ¬ (Rose seen.write_faults seen.write_faults_now) → (status ≡ 0) ⊎ (status ≡ 5)
complete_check form status seen end is that a b =
    well_at form (Some Check) status 0 seen end is a b (λ text due. due_status check_limit 0 IsCheckOf IsPair seen.left status text (λ bytes pair out. pair_good bytes status text pair out) that due.1)

pub told_bad_pair : (form : Option Form) (status : ℕ) (seen : Seen) → IsEnd form status seen → form ≡ Some Check → IsToldThat (IsWithin check_limit IsNoPair) seen.left → ¬ (Rose seen.read_faults seen.read_faults_now) → ¬ (Rose seen.write_faults seen.write_faults_now) → (status ≡ 1) ⊎ (status ≡ 5)
told_bad_pair form status seen end is that a b =
    well_at form (Some Check) status 1 seen end is a b (λ text due. due_status check_limit 1 IsCheckOf IsNoPair seen.left status text (λ bytes none out. pair_none bytes status text none out) that due.1)

pub told_long_pair : (form : Option Form) (status : ℕ) (seen : Seen) → IsEnd form status seen → form ≡ Some Check → IsToldThat (IsMore check_limit) seen.left → ¬ (Rose seen.read_faults seen.read_faults_now) → ¬ (Rose seen.write_faults seen.write_faults_now) → (status ≡ 6) ⊎ (status ≡ 5)
told_long_pair form status seen end is that a b = well_at form (Some Check) status 6 seen end is a b (λ text due. due_more check_limit IsCheckOf seen.left status text that due.1)

pub told_other_pair : (form : Option Form) (status : ℕ) (seen : Seen) → IsEnd form status seen → form ≡ Some Check → IsToldThat (IsWithin check_limit IsOtherPair) seen.left → ¬ (Rose seen.read_faults seen.read_faults_now) → ¬ (Rose seen.write_faults seen.write_faults_now) → (status ≡ 7) ⊎ (status ≡ 5)
told_other_pair form status seen end is that a b =
    well_at form (Some Check) status 7 seen end is a b (λ text due. due_status check_limit 7 IsCheckOf IsOtherPair seen.left status text (λ bytes pair out. pair_other bytes status text pair out) that due.1)

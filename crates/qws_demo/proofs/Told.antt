-- What an end says of a status.
use Rattle.std.proofs.Common.{◌≡◌, ◌∙◌, ◌<◌, ◌≤◌, ℕ, List, [], ◌++◌, length, nat_le, Bool, true, false, Option, None, Some, Result, Ok, Err, refl, sym, ap, subst, inl, inr, arith}
use Rattle.std.specs.Prelude.{◌⊎◌, ◌↔◌, IsOk, IsErr, ⊤}
use Rattle.std.proofs.lemmas.Bool.Decides.{nat_tests}
use borrow.Author.Tests.{leb-true}
use Rattle.qws_base.specs.Outside.{Rose, HadMoreThan, with_bytes, WritesFront}
use Rattle.script_grammar.specs.Session.{Session}
use Rattle.script_grammar.specs.Reading.{script_of}
use Rattle.script_grammar.specs.declared.lines.Cause.{Cause}
use Rattle.session_journal.specs.Grammar.{IsFile, LeavesAt}
use Rattle.session_journal.specs.declared.files.File.{File}
use Rattle.session_replay.specs.Files.{IsFileOf}
use Rattle.session_replay.specs.Verdicts.{IsVerdict}
use Rattle.session_replay.specs.declared.verdicts.Verdict.{Verdict}
use Rattle.session_replay.specs.declared.verdicts.Verdict.TheVariants.{Holds, BadScreen, BadEntry, BadPixel}
use Rattle.program_words.specs.declared.forms.Form.{Form}
use Rattle.program_words.specs.declared.forms.Form.TheVariants.{Run, Check, Make, Trial}
use Rattle.program_words.specs.declared.forms.Load.{Load}
use Rattle.program_outputs.specs.Texts.{long_text, verdict_status, verdict_text}
use Rattle.program_outputs.specs.Outputs.{script_part, file_part, IsRunText, IsNoFile, IsJudged, IsRunOutput, IsCheckOutput}
use Rattle.qws_demo.specs.Due.{IsDueFor, IsDueAt, IsRunOf, IsCheckOf, IsRunStatus, IsCheckStatus, IsDue, Reads, IsReadWhole, run_limit, check_limit}
use Rattle.qws_demo.specs.Ends.{Seen, IsTold, IsUnread, IsCut, IsWanting, IsEnd}
use Rattle.qws_demo.specs.Statuses.{WritesWhere}

-- ---- ends of a status

-- a status other than 3, 4 and 5 has its text
pub told_end : (form : Option Form) (status : ℕ) (seen : Seen) → IsEnd form status seen → ¬ (status ≡ 3) → ¬ (status ≡ 4) → ¬ (status ≡ 5) → IsTold form status seen
told_end form status seen (inl told) a b c = told
told_end form status seen (inr (inl unread)) a b c = absurd (a unread.status_is)
told_end form status seen (inr (inr (inl cut))) a b c = absurd (b cut.status_is)
told_end form status seen (inr (inr (inr wants))) a b c = absurd (c wants.status_is)

-- without faults a status other than 5 has its text
pub well_end : (form : Option Form) (status : ℕ) (seen : Seen) → IsEnd form status seen → ¬ (Reads form × Rose seen.read_faults seen.read_faults_now) → ¬ (Rose seen.write_faults seen.write_faults_now) → IsTold form status seen ⊎ (status ≡ 5)
well_end form status seen (inl told) a b = inl told
well_end form status seen (inr (inl unread)) a b = absurd (a (unread.reads, unread.fault))
well_end form status seen (inr (inr (inl cut))) a b = absurd (b cut.fault)
well_end form status seen (inr (inr (inr wants))) a b = inr wants.status_is

-- ---- bytes within the limit, or more

pub limit_cases : (m n : ℕ) → (m ≤ n) ⊎ (n < m)
limit_cases m n = elim (nat_le m n) as (λ b. nat_le m n ≡ b → (m ≤ n) ⊎ (n < m)) [ true ↦ λ h. inl (leb-true m n h) | false ↦ λ h. inr (grind (arith, nat_tests, h)) ] refl

-- a text of another status than 6 is that of bytes within the limit
pub due_within : (limit : ℕ) (O : List ℕ → ℕ → List ℕ → Type 0) (bytes : List ℕ) (status : ℕ) (text : List ℕ) → IsDueFor limit O bytes status text → ¬ (status ≡ 6) → (length bytes ≤ limit) × O bytes status text
due_within limit O bytes status text due other =
    elim (limit_cases (length bytes) limit) as (λ _. (length bytes ≤ limit) × O bytes status text) [ inl few ↦ (few, due.within few) | inr more ↦ absurd (other (due.long more).0) ]

-- what holds of the text of bytes within the limit
pub told_where : (limit : ℕ) (O : List ℕ → ℕ → List ℕ → Type 0) (P : List ℕ → List ℕ → Type 0) (left before now : Option (List ℕ)) (status : ℕ) (text : List ℕ) → ((bytes : List ℕ) → length bytes ≤ limit → O bytes status text → P bytes text) → IsDueAt limit O left status text → ¬ (status ≡ 6) → now ≡ with_bytes text before → WritesWhere P left before now
told_where limit O P None before now status text says due other written = tt
told_where limit O P (Some bytes) before now status text says due other written =
    let found = due_within limit O bytes status text due other in
    (text, written, says bytes found.0 found.1)

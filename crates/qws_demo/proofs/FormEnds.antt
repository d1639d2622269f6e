-- The ends of the forms.
use Rattle.std.proofs.Common.{◌≡◌, ℕ, List, Option, None, Some, refl, sym, subst, inl, inr, arith}
use Rattle.std.specs.Prelude.{◌⊎◌}
use Rattle.program_words.specs.declared.forms.Form.{Form}
use Rattle.program_words.specs.declared.forms.Form.TheVariants.{Run, Check, Make, Trial}
use Rattle.program_words.specs.declared.forms.Load.{Load}
use Rattle.program_outputs.specs.Texts.{usage_text}
use Rattle.program_outputs.specs.Outputs.{make_text, trial_text}
use Rattle.qws_demo.specs.Due.{IsDue, Reads, IsReadWhole}
use Rattle.qws_demo.specs.Ends.{Seen, IsEnd, IsFinish, IsTextEnd}
use Rattle.qws_demo.proofs.EndLemmas.{finished}

-- nothing was read
pub record IsUntouched (seen : Seen) : Type 0 where
  pub left : seen.rest ≡ seen.left
  pub read_well : seen.read_faults_now ≡ seen.read_faults

pub make_ends : (load : Load) (seen : Seen) (result : ℕ) → IsUntouched seen → IsTextEnd (make_text load) result seen.written seen.written_now seen.write_faults seen.write_faults_now → IsEnd (Some (Make load)) result seen
make_ends load seen result still (inl done) = finished (Some (Make load)) seen 0 (make_text load) result (refl, refl) (λ _ reads. absurd reads) still.read_well done
make_ends load seen result still (inr lacks) = inr (inr (inr (record { status_is = lacks.status_is; some = refl; written = lacks.written; read_well = still.read_well; wrote_well = lacks.wrote_well })))

pub trial_ends : (load : Load) (seen : Seen) (result : ℕ) → IsUntouched seen → IsTextEnd (trial_text load) result seen.written seen.written_now seen.write_faults seen.write_faults_now → IsEnd (Some (Trial load)) result seen
trial_ends load seen result still (inl done) = finished (Some (Trial load)) seen 0 (trial_text load) result (refl, refl) (λ _ reads. absurd reads) still.read_well done
trial_ends load seen result still (inr lacks) = inr (inr (inr (record { status_is = lacks.status_is; some = refl; written = lacks.written; read_well = still.read_well; wrote_well = lacks.wrote_well })))

pub usage_ends : (form : Option Form) (seen : Seen) (result : ℕ) → form ≡ None → IsUntouched seen → IsFinish 2 usage_text result seen.written seen.written_now seen.write_faults seen.write_faults_now → IsEnd form result seen
usage_ends form seen result none still done = subst (λ (f : Option Form). IsEnd f result seen) (sym none) (finished None seen 2 usage_text result (refl, refl) (λ zero. absurd (omega arith)) still.read_well done)

-- at the words that ask for a form
pub at_form : (form other : Option Form) (result : ℕ) (seen : Seen) → form ≡ other → IsEnd other result seen → IsEnd form result seen
at_form form other result seen is end = subst (λ (f : Option Form). IsEnd f result seen) (sym is) end

-- a text that was written or cut is one with status 0
pub text_ends : (status : ℕ) (some text : List ℕ) (result : ℕ) (before now : Option (List ℕ)) (faults faults_now : ℕ) → status ≡ 0 → some ≡ text → IsFinish status some result before now faults faults_now → IsTextEnd text result before now faults faults_now
text_ends status some text result before now faults faults_now zero is done =
    inl (subst (λ (n : ℕ). IsFinish n text result before now faults faults_now) zero (subst (λ (t : List ℕ). IsFinish status t result before now faults faults_now) is done))

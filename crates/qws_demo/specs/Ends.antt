-- How a call of the program ends: its status, and what source and sink show before and after it.
use Rattle.std.specs.Prelude.{ℕ, ◌≡◌, ◌⊎◌, List, Option, Some, IsSome}
use Rattle.qws_base.specs.Outside.{Rose, with_bytes, WritesFront}
use Rattle.program_words.specs.declared.forms.Form.{Form}
use Rattle.qws_demo.specs.Due.{IsDue, Reads, IsReadWhole}

-- what source and sink show: the bytes left, the bytes written, and how often each failed
pub record Seen : Type 0 where
  pub left : Option (List ℕ)
  pub rest : Option (List ℕ)
  pub read_faults : ℕ
  pub read_faults_now : ℕ
  pub written : Option (List ℕ)
  pub written_now : Option (List ℕ)
  pub write_faults : ℕ
  pub write_faults_now : ℕ

-- the text that is due was written whole, and nothing failed
pub record IsTold (form : Option Form) (status : ℕ) (seen : Seen) : Type 0 where
  pub text : List ℕ
  pub due : IsDue form seen.left status text
  pub whole : status ≡ 0 → Reads form → IsReadWhole seen.left seen.rest
  pub written : seen.written_now ≡ with_bytes text seen.written
  pub read_well : seen.read_faults_now ≡ seen.read_faults
  pub wrote_well : seen.write_faults_now ≡ seen.write_faults

-- the source failed, and nothing was written
pub record IsUnread (form : Option Form) (status : ℕ) (seen : Seen) : Type 0 where
  pub status_is : status ≡ 3
  pub reads : Reads form
  pub fault : Rose seen.read_faults seen.read_faults_now
  pub written : seen.written_now ≡ seen.written
  pub wrote_well : seen.write_faults_now ≡ seen.write_faults

-- the sink failed, and a prefix of the text that is due was written
pub record IsCut (form : Option Form) (status : ℕ) (seen : Seen) : Type 0 where
  pub status_is : status ≡ 4
  pub due_status : ℕ
  pub text : List ℕ
  pub due : IsDue form seen.left due_status text
  pub part : WritesFront text seen.written seen.written_now
  pub fault : Rose seen.write_faults seen.write_faults_now
  pub read_well : seen.read_faults_now ≡ seen.read_faults

-- memory was missing, and nothing was written
pub record IsWanting (form : Option Form) (status : ℕ) (seen : Seen) : Type 0 where
  pub status_is : status ≡ 5
  pub some : IsSome form
  pub written : seen.written_now ≡ seen.written
  pub read_well : seen.read_faults_now ≡ seen.read_faults
  pub wrote_well : seen.write_faults_now ≡ seen.write_faults

abbrev pub IsEnd : Option Form → ℕ → Seen → Type 0
IsEnd form status seen = IsTold form status seen ⊎ (IsUnread form status seen ⊎ (IsCut form status seen ⊎ IsWanting form status seen))

-- ---- the writing of a text

-- it was written whole
pub record IsWritten (status : ℕ) (text : List ℕ) (result : ℕ) (before now : Option (List ℕ)) (faults faults_now : ℕ) : Type 0 where
  pub status_is : result ≡ status
  pub written : now ≡ with_bytes text before
  pub wrote_well : faults_now ≡ faults

-- the sink failed in it
pub record IsBroken (text : List ℕ) (result : ℕ) (before now : Option (List ℕ)) (faults faults_now : ℕ) : Type 0 where
  pub status_is : result ≡ 4
  pub part : WritesFront text before now
  pub fault : Rose faults faults_now

abbrev pub IsFinish : ℕ → List ℕ → ℕ → Option (List ℕ) → Option (List ℕ) → ℕ → ℕ → Type 0
IsFinish status text result before now faults faults_now = IsWritten status text result before now faults faults_now ⊎ IsBroken text result before now faults faults_now

-- a text of status 0 was written or cut, or memory was missing
pub record IsLacking (result : ℕ) (before now : Option (List ℕ)) (faults faults_now : ℕ) : Type 0 where
  pub status_is : result ≡ 5
  pub written : now ≡ before
  pub wrote_well : faults_now ≡ faults

abbrev pub IsTextEnd : List ℕ → ℕ → Option (List ℕ) → Option (List ℕ) → ℕ → ℕ → Type 0
IsTextEnd text result before now faults faults_now = IsFinish 0 text result before now faults faults_now ⊎ IsLacking result before now faults faults_now

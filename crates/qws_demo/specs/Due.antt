-- What the program has to write, and with which status.
use Rattle.std.specs.Prelude.{ℕ, ◌≡◌, ◌<◌, ◌≤◌, ◌⊎◌, List, [], ◌∷◌, map, length, Option, None, Some, String, string_bytes, ⊤}
use Rattle.std.specs.declared.alloc.Global.{Global}
use Rattle.script_grammar.specs.Reading.{script_of}
use Rattle.program_words.specs.Forms.{form_of}
use Rattle.program_words.specs.declared.forms.Form.{Form}
use Rattle.program_words.specs.declared.forms.Form.TheVariants.{Run, Check, Make, Trial}
use Rattle.program_outputs.specs.Texts.{usage_text, long_text}
use Rattle.program_outputs.specs.Outputs.{script_part, file_part, IsRunOutput, IsCheckOutput, make_text, trial_text}

-- the form that the words ask for; none where they have no form
abbrev pub asked : List (String Global) → Option Form
asked words = form_of (map string_bytes words)

-- the forms of the program that runs on one thread and waits for nobody
abbrev pub plain_form : Option Form → Option Form
plain_form None = None
plain_form (Some Run) = None
plain_form (Some Check) = Some Check
plain_form (Some (Make load)) = Some (Make load)
plain_form (Some (Trial load)) = None

-- ---- forms that read

-- the most bytes that `run` reads, and `check`
abbrev pub run_limit : ℕ
run_limit = 4194304

abbrev pub check_limit : ℕ
check_limit = 67108864

-- more bytes than the limit are too long; else the output is that of the bytes
pub record IsDueFor (limit : ℕ) (IsOutput : List ℕ → ℕ → List ℕ → Type 0) (bytes : List ℕ) (status : ℕ) (text : List ℕ) : Type 0 where
  pub long : limit < length bytes → (status ≡ 6) × (text ≡ long_text)
  pub within : length bytes ≤ limit → IsOutput bytes status text

-- the same of a source that may not tell its bytes
abbrev pub IsDueAt : ℕ → (List ℕ → ℕ → List ℕ → Type 0) → Option (List ℕ) → ℕ → List ℕ → Type 0
IsDueAt limit IsOutput None status text = ⊤
IsDueAt limit IsOutput (Some bytes) status text = IsDueFor limit IsOutput bytes status text

abbrev pub IsRunOf : List ℕ → ℕ → List ℕ → Type 0
IsRunOf bytes status text = IsRunOutput (script_of bytes) status text

abbrev pub IsCheckOf : List ℕ → ℕ → List ℕ → Type 0
IsCheckOf bytes status text = IsCheckOutput (script_of (script_part bytes)) (file_part bytes) status text

-- the statuses of texts of these forms, and the text of status 6
abbrev pub IsRunStatus : ℕ → List ℕ → Type 0
IsRunStatus status text = (status ≡ 0) ⊎ ((status ≡ 1) ⊎ ((status ≡ 6) × (text ≡ long_text)))

abbrev pub IsCheckStatus : ℕ → List ℕ → Type 0
IsCheckStatus status text = (status ≡ 7) ⊎ IsRunStatus status text

-- ---- all forms

-- the text and its status, for a form and the bytes that the source had
abbrev pub IsDue : Option Form → Option (List ℕ) → ℕ → List ℕ → Type 0
IsDue None left status text = (status ≡ 2) × (text ≡ usage_text)
IsDue (Some Run) left status text = IsRunStatus status text × IsDueAt run_limit IsRunOf left status text
IsDue (Some Check) left status text = IsCheckStatus status text × IsDueAt check_limit IsCheckOf left status text
IsDue (Some (Make load)) left status text = (status ≡ 0) × (text ≡ make_text load)
IsDue (Some (Trial load)) left status text = (status ≡ 0) × (text ≡ trial_text load)

-- the form reads the source
abbrev pub Reads : Option Form → Type 0
Reads None = ⊥
Reads (Some Run) = ⊤
Reads (Some Check) = ⊤
Reads (Some (Make load)) = ⊥
Reads (Some (Trial load)) = ⊥

-- a source that told its bytes has been read to their end
abbrev pub IsReadWhole : Option (List ℕ) → Option (List ℕ) → Type 0
IsReadWhole None rest = ⊤
IsReadWhole (Some bytes) rest = rest ≡ Some []

-- The text of a line, word by word.
use Rattle.std.proofs.Common.{◌≡◌, ℕ, List, [], ◌∷◌, Result, Ok, Err, IfOk, ◌++◌, refl, ap, sym, ◌∙◌, append_assoc}
use Rattle.std.specs.List.{join_with_byte}
use Rattle.script_grammar.specs.Printing.{ended_line}

-- each word with the blank or the line end behind it
abbrev pub word_by_word : List (List ℕ) → List ℕ
word_by_word [] = 10 ∷ []
word_by_word (w ∷ []) = w ++ 10 ∷ []
word_by_word (w ∷ v ∷ words) = w ++ (32 ∷ word_by_word (v ∷ words))

pub ended_is : (words : List (List ℕ)) → word_by_word words ≡ ended_line words
ended_is [] = refl
ended_is (w ∷ []) = refl
ended_is (w ∷ v ∷ words) = ap (λ (t : List ℕ). w ++ (32 ∷ t)) (ended_is (v ∷ words)) ∙ sym (append_assoc w (32 ∷ join_with_byte 32 (v ∷ words)) (10 ∷ []))

-- the text has another spelling
pub same_text : {A E : Type 0} (r : Result A E) (bytes : A → List ℕ) (text same : List ℕ) → IfOk r (λ t. bytes t ≡ text) → text ≡ same → IfOk r (λ t. bytes t ≡ same)
same_text (Ok t) bytes text same is e = is ∙ e
same_text (Err x) bytes text same is e = tt

use Rattle.std.proofs.Common.{◌≡◌, ap, ◌∙◌, ℕ, List, [], ◌∷◌, string_bytes}
use Rattle.std.specs.Prelude.{codes}
use Rattle.std.specs.Fmt.{decimal}
use Rattle.script_grammar.specs.Printing.{colour}
use Rattle.session_maker.proofs.NumberWords.{word_0, word_65}
use Rattle.session_maker.proofs.LineTexts.{word_by_word, ended_is}
use Rattle.session_maker.proofs.texts.codes_text.Goals as goal

pub returns : goal.returns
returns c =
    let line : List ℕ → List (List ℕ) = λ k. decimal c.args.client ∷ codes "text" ∷ c.args.name.now ∷ (48 ∷ []) ∷ decimal c.args.at.x ∷ decimal c.args.at.y ∷ codes "copy" ∷ k ∷ (54 ∷ 53 ∷ []) ∷ (54 ∷ 53 ∷ []) ∷ [] in
    let text : string_bytes c.in_ok-text.text ≡ word_by_word (line (string_bytes c.in_ok-colour.colour)) = c.in_ok-text.ensures.ok in
    let whole = text ∙ ap (λ (k : List ℕ). word_by_word (line k)) c.in_ok-colour.ensures ∙ ended_is (line (colour c.args.c)) in
    rw (word_0, word_65) whole

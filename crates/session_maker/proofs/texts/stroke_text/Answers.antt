use Rattle.std.proofs.Common.{◌≡◌, ap, ◌∙◌, ℕ, List, [], ◌∷◌, string_bytes, append_assoc}
use Rattle.std.specs.Prelude.{codes}
use Rattle.std.specs.Fmt.{decimal}
use Rattle.script_grammar.specs.Printing.{colour}
use Rattle.session_maker.proofs.LineTexts.{word_by_word, ended_is}
use Rattle.session_maker.proofs.texts.stroke_text.Goals as goal

pub returns : goal.returns
returns c =
    let line : List ℕ → List (List ℕ) = λ k. decimal c.args.client ∷ codes "line" ∷ c.args.name.now ∷ decimal c.args.from.x ∷ decimal c.args.from.y ∷ decimal c.args.to.x ∷ decimal c.args.to.y ∷ k ∷ [] in
    let text : string_bytes c.in_ok-text.text ≡ word_by_word (line (string_bytes c.in_ok-colour.colour)) = simp append_assoc at c.in_ok-text.ensures.ok in
    let whole = text ∙ ap (λ (k : List ℕ). word_by_word (line k)) c.in_ok-colour.ensures ∙ ended_is (line (colour c.args.c)) in
    whole

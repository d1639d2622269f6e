use Rattle.std.proofs.Common.{◌≡◌, ◌∙◌, ℕ, List, [], ◌∷◌, string_bytes}
use Rattle.std.specs.Prelude.{codes}
use Rattle.std.specs.Fmt.{decimal}
use Rattle.session_maker.proofs.NumberWords.{word_0}
use Rattle.session_maker.proofs.LineTexts.{word_by_word, ended_is}
use Rattle.session_maker.proofs.texts.region_text.Goals as goal

pub returns : goal.returns
returns c =
    let words : List (List ℕ) = decimal c.args.client ∷ codes "region" ∷ c.args.name.now ∷ decimal c.args.origin.x ∷ decimal c.args.origin.y ∷ (48 ∷ []) ∷ (48 ∷ []) ∷ decimal c.args.w ∷ decimal c.args.h ∷ [] in
    let text : string_bytes c.in_ok-text.text ≡ word_by_word words = c.in_ok-text.ensures.ok in
    rw word_0 (text ∙ ended_is words)

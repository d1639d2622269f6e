use Rattle.std.proofs.Common.{◌≡◌, ◌∙◌, sym, ap, map, List, ℕ, Bor}
use Rattle.script_grammar.specs.Session.{Session}
use Rattle.script_grammar.specs.Reading.{Within, line_in, text_in}
use Rattle.script_reader.proofs.Bounds.{many_words}
use Rattle.script_reader.proofs.Folds.{within_by, within_open, filled_by, match_none, match_some}
use Rattle.script_reader.proofs.Assets.{judged_as, if_ok_more}
use Rattle.script_reader.proofs.bodies.body_text.Goals as goal

pub returns-in-None : goal.returns-in-None
returns-in-None c = λ said limits kept at.
    let text = c.args.text.now in
    within_by said text ∙ many_words (Within said) text (within_open said limits) (match_none _ _ _ c.in-None.is c.in_ok-line_words.ensures)

pub returns-in-Some : goal.returns-in-Some
returns-in-Some c =
    let text = c.args.text.now in
    let words = match_some _ _ _ c.in-Some.words c.in-Some.is c.in_ok-line_words.ensures in
    let same : (said : Session) → line_in (Within said) (map (λ (w : Bor (List ℕ)). w.now) c.deref.result.now) ≡ text_in (Within said) text =
    λ said. ap (λ (l : List (Bor (List ℕ))). line_in (Within said) (map (λ (w : Bor (List ℕ)). w.now) l)) c.deref.ensures.value ∙ sym (within_by said text ∙ filled_by (Within said) text _ words.same words.filled) in
    if_ok_more c.body_words.result _ _ (λ read judges said limits kept at. judged_as _ _ said _ _ read (same said) (judges said limits kept at)) c.body_words.ensures

use Rattle.std.proofs.Common.{◌∙◌, sym, ap, map, List, ℕ, Bor}
use Rattle.script_grammar.specs.Reading.{line_in}
use Rattle.script_reader.proofs.Bounds.{many_words}
use Rattle.script_reader.specs.Stages.{stage_before}
use Rattle.script_reader.proofs.Folds.{head_by, head_open, filled_by, match_none, match_some}
use Rattle.script_reader.proofs.openings.head_text.Goals as goal

pub returns-in-None : goal.returns-in-None
returns-in-None c =
    let before = stage_before c.args.stage in
    let text = c.args.text.now in
    sym (head_by c.args.stage text ∙ many_words before text (head_open c.args.stage) (match_none _ _ _ c.in-None.is c.in_ok-line_words.ensures))

pub returns-in-Some : goal.returns-in-Some
returns-in-Some c =
    let before = stage_before c.args.stage in
    let text = c.args.text.now in
    let words = match_some _ _ _ c.in-Some.words c.in-Some.is c.in_ok-line_words.ensures in
    c.head_words.ensures
    ∙ ap (λ (l : List (Bor (List ℕ))). line_in before (map (λ (w : Bor (List ℕ)). w.now) l)) c.deref.ensures.value
    ∙ sym (head_by c.args.stage text ∙ filled_by before text _ words.same words.filled)

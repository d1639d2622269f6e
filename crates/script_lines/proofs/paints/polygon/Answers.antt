use Rattle.std.proofs.Common.{List, ℕ, ap, ◌∙◌, arith}
use Rattle.script_grammar.specs.Words.{in_count, points_read}
use Rattle.script_lines.proofs.Forms.{made3, bad3, polygon_is}
use Rattle.script_lines.proofs.paints.polygon.Goals as goal

pub returns-in-Ok : goal.returns-in-Ok
returns-in-Ok c =
    let each = c.in-Ok.ensures.each in
    made3 _ (polygon_is c.args.words.now (omega arith)) c.in_ok-window.ensures c.ink_words-ink.ensures.ink (c.in_ok-counted_points.ensures ∙ ap (λ (ws : List (List ℕ)). in_count 6 128 ws (points_read ws)) c.ink_words-ink.ensures.rest) each.0 each.1 each.2

pub returns-in-Err : goal.returns-in-Err
returns-in-Err c = bad3 _ (polygon_is c.args.words.now (omega arith)) c.in_ok-window.ensures c.ink_words-ink.ensures.ink (c.in_ok-counted_points.ensures ∙ ap (λ (ws : List (List ℕ)). in_count 6 128 ws (points_read ws)) c.ink_words-ink.ensures.rest) c.join3.ensures.value c.in-Err.is

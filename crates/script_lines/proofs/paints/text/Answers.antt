use Rattle.std.proofs.Common.{List, ℕ, ap, ◌∙◌, arith}
use Rattle.script_grammar.specs.Lines.{written_read}
use Rattle.script_lines.proofs.Forms.{made4, bad4, text_is, word}
use Rattle.script_lines.proofs.paints.text.Goals as goal

pub returns-in-Ok : goal.returns-in-Ok
returns-in-Ok c =
    let each = c.in-Ok.ensures.each in
    made4 _ (text_is c.args.fonts.now c.args.words.now (omega arith)) c.in_ok-window.ensures c.placed_point.ensures c.ink_words-ink.ensures.ink (c.in_ok-text.ensures ∙ ap (λ (ws : List (List ℕ)). written_read c.args.fonts.now (word c.args.words.now 1) ws) c.ink_words-ink.ensures.rest) each.0 each.1 each.2 each.3

pub returns-in-Err : goal.returns-in-Err
returns-in-Err c = bad4 _ (text_is c.args.fonts.now c.args.words.now (omega arith)) c.in_ok-window.ensures c.placed_point.ensures c.ink_words-ink.ensures.ink (c.in_ok-text.ensures ∙ ap (λ (ws : List (List ℕ)). written_read c.args.fonts.now (word c.args.words.now 1) ws) c.ink_words-ink.ensures.rest) c.join4.ensures.value c.in-Err.is

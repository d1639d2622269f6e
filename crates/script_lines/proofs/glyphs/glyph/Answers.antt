use Rattle.std.proofs.Common.{◌≡◌, Err, sym, ◌∙◌}
use Rattle.glyph_masks.specs.Glyphs.{GlyphView}
use Rattle.script_grammar.specs.Words.{short_read, ranged}
use Rattle.script_words.specs.Judged.{joined3}
use Rattle.script_lines.proofs.GlyphParts.{beside_ok, beside_err}
use Rattle.script_lines.proofs.glyphs.glyph.Goals as goal

pub returns-in-Ok : goal.returns-in-Ok
returns-in-Ok c =
    let each = c.in-Ok.ensures.each in
    sym (beside_ok (λ code width rows. let g : GlyphView = record { code = code; width = width; rows = rows } in g) (short_read c.args.code.now) (ranged 1 32 c.args.width.now) c.in_ok-rows.rows _ c.in-Ok.code c.in-Ok.width c.in-Ok.rows (sym c.short.ensures ∙ each.0) (sym c.ranged.ensures.value ∙ each.1) each.2 c.in_ok-rows.ensures)

pub returns-in-Err : goal.returns-in-Err
returns-in-Err c =
    let read : joined3 (short_read c.args.code.now) (ranged 1 32 c.args.width.now) c.in_ok-rows.rows ≡ Err c.in-Err.cause = cc (c.in-Err.is, c.join3.ensures.value, c.short.ensures, c.ranged.ensures.value) in
    sym (beside_err (λ code width rows. let g : GlyphView = record { code = code; width = width; rows = rows } in g) (short_read c.args.code.now) (ranged 1 32 c.args.width.now) c.in_ok-rows.rows _ c.in-Err.cause read c.in_ok-rows.ensures)

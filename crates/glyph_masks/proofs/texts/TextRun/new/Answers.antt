use Rattle.std.proofs.Common.{◌≡◌, ◌∙◌, length, sym, ap, subst, arith}
use Rattle.std.specs.List.{All}
use Rattle.glyph_masks.specs.Texts.{spelled, width_of}
use Rattle.glyph_masks.proofs.SpellLemmas.{length_spelled, rows_of_spelled}
use Rattle.glyph_masks.proofs.texts.TextRun.new.Goals as goal

pub width_of-requires : goal.width_of-requires
width_of-requires c = omega (arith, ap length c.deref.ensures.value, ap length c.in-Ok.ensures, length_spelled c.args.font.now c.args.codes.now)

pub invariant_of-result : goal.invariant_of-result
invariant_of-result c =
    let is : c.in-Ok.glyphs.items ≡ spelled c.args.font.now c.args.codes.now = c.in-Ok.ensures in
    record {
      placed = c.requires.placed;
      few = omega (arith, ap length is, length_spelled c.args.font.now c.args.codes.now);
      rows = subst (λ gs. All (λ g. length g.rows ≡ c.height.result) gs) (sym is) (rows_of_spelled c.args.font.now c.args.codes.now c.height.result c.height.ensures.rows);
      wide = c.width_of.ensures ∙ ap width_of c.deref.ensures.value;
    }

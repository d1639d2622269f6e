use Rattle.std.proofs.Common.{◌≡◌, ◌+◌, ◌<◌, ℕ, length, get_or, sym, subst, arith}
use Rattle.std.proofs.Math.ListN.{set}
use Rattle.std.proofs.lemmas.List.FromFn.{fill_by_all}
use Rattle.std.proofs.lemmas.List.Edits.{fill_by_more}
use Rattle.qws_base.specs.declared.inks.Ink.{Ink}
use Rattle.qws_base.specs.declared.inks.Ink.TheVariants.{Skip}
use Rattle.glyph_masks.specs.Texts.{column_bit}
use Rattle.glyph_masks.specs.Columns.{bit_ink}
use Rattle.glyph_masks.proofs.rows.glyph_inks.Goals as goal

pub loop-j-preserved : goal.loop-j-preserved
loop-j-preserved c =
    let f : ℕ → Ink = λ k. bit_ink c.args.ink.now (column_bit c.args.width c.args.row (c.args.first + k)) in
    subst (λ ink. (k : ℕ) → k < c.loop-j.j + 1 → get_or (set c.loop-j.out c.loop-j.j ink) k Skip ≡ f k) (sym c.bit_ink.ensures) (fill_by_more f c.loop-j.out c.loop-j.j Skip (omega arith) c.loop-j.invariant)

pub returns : goal.returns
returns c = fill_by_all (λ k. bit_ink c.args.ink.now (column_bit c.args.width c.args.row (c.args.first + k))) c.loop-j.out (length c.args.out.now) Skip (omega arith) (λ k h. c.loop-j.invariant k (omega arith))

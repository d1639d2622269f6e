use Rattle.std.proofs.Common.{◌≡◌, ◌+◌, ◌-◌, ℕ, List, [], ◌∷◌, min, length, take, drop, slice_index, ap, ◌∙◌, subst, arith, length-take, length-drop}
use Rattle.glyph_masks.specs.Columns.{glyph_inks}
use Rattle.std.proofs.lemmas.List.{drop_all}
use Rattle.glyph_masks.specs.Glyphs.{GlyphView}
use Rattle.glyph_masks.proofs.BitLemmas.{Front, front_none, front_past, front_more, front_full, front_end, next_rest}
use Rattle.glyph_masks.proofs.rows.text_inks.Goals as goal
use Rattle.glyph_masks.proofs.rows.text_inks.Goals.{then-column-width, else-column-width}

pub loop-glyph-init : goal.loop-glyph-init
loop-glyph-init c = front_none c.args.ink.now c.args.glyphs.now c.args.row c.args.first c.args.out.now

pub returns-then-at-out : goal.returns-then-at-out
returns-then-at-out c =
    front_full c.args.ink.now c.args.glyphs.now (drop c.loop-glyph.glyph-index c.args.glyphs.now) c.args.row c.args.first c.loop-glyph.column c.loop-glyph.at (length c.args.out.now) c.loop-glyph.out
    c.loop-glyph.invariant c.if-at-out.true (omega arith)

pub loop-glyph-preserved : goal.loop-glyph-preserved
loop-glyph-preserved c =
    let all : List GlyphView = c.args.glyphs.now in
    let after : List GlyphView = drop (c.loop-glyph.glyph-index + 1) c.args.glyphs.now in
    let before : Front c.args.ink.now all (c.glyph-item.result ∷ after) c.args.row c.args.first c.loop-glyph.column c.loop-glyph.at c.loop-glyph.out =
    subst (λ l. Front c.args.ink.now all l c.args.row c.args.first c.loop-glyph.column c.loop-glyph.at c.loop-glyph.out)
    (next_rest c.args.glyphs.now c.loop-glyph.glyph-index c.glyph-item.result c.loop-glyph-test.true c.glyph-item.is) c.loop-glyph.invariant in
    elim c.if-column-width.branch [
      | then-column-width w ↦
          rw (w.out-is, w.at-is, w.column-is, c.width-width.ensures.value)
          (front_past c.args.ink.now all c.glyph-item.result after c.args.row c.args.first c.loop-glyph.column c.loop-glyph.at c.loop-glyph.out before (omega arith))
      | else-column-width w ↦
          let g : GlyphView = c.glyph-item.result in
          let n : ℕ = length (take (w.min-end.result - c.loop-glyph.at) (drop c.loop-glyph.at c.loop-glyph.out)) in
          let end : w.min-end.result ≡ min (length c.loop-glyph.out) (c.loop-glyph.at + (g.width - c.loop-glyph.column)) =
          w.min-end.ensures ∙ ap (λ m. min (length c.loop-glyph.out) (c.loop-glyph.at + (m - c.loop-glyph.column))) c.width-width.ensures.value in
          let len : n ≡ w.min-end.result - c.loop-glyph.at =
          omega (arith, end, c.loop-glyph.invariant.within, length-take (w.min-end.result - c.loop-glyph.at) (drop c.loop-glyph.at c.loop-glyph.out), length-drop c.loop-glyph.at c.loop-glyph.out) in
          let made = w.glyph_inks.ensures
          ∙ ap (λ m. glyph_inks c.args.ink.now m (slice_index w.rows.result.now c.args.row) c.loop-glyph.column n) c.width-width.ensures.value
          ∙ ap (λ l. glyph_inks c.args.ink.now g.width (slice_index l c.args.row) c.loop-glyph.column n) w.rows.ensures.value
          ∙ ap (glyph_inks c.args.ink.now g.width (slice_index g.rows c.args.row) c.loop-glyph.column) len in
          rw (w.out-is, w.at-is, w.column-is)
          (front_more c.args.ink.now all g after c.args.row c.args.first c.loop-glyph.column c.loop-glyph.at w.min-end.result c.loop-glyph.out w.glyph_inks.new.out before (omega arith) end made)
    ]

pub returns : goal.returns
returns c =
    let past : drop c.loop-glyph.glyph-index c.args.glyphs.now ≡ [] = drop_all c.loop-glyph.glyph-index c.args.glyphs.now c.loop-glyph-test.false in
    front_end c.args.ink.now c.args.glyphs.now c.args.row c.args.first c.loop-glyph.column c.loop-glyph.at (length c.args.out.now) c.loop-glyph.out c.lay.new.out
    (subst (λ l. Front c.args.ink.now c.args.glyphs.now l c.args.row c.args.first c.loop-glyph.column c.loop-glyph.at c.loop-glyph.out) past c.loop-glyph.invariant)
    (omega arith) c.lay.ensures

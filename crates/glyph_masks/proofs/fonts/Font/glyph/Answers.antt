use Rattle.std.proofs.Common.{ℕ, ◌+◌, ◌-◌, ◌*◌, Some, take, drop, sym, ap, ◌∙◌}
use Rattle.glyph_masks.specs.Glyphs.{glyph_of}
use Rattle.glyph_masks.proofs.FontLemmas.{none_at, found_at, good_at, part_from}
use Rattle.glyph_masks.proofs.fonts.Font.glyph.Goals as goal

pub returns-in_err-index : goal.returns-in_err-index
returns-in_err-index c =
    c.from_residual.ensures ∙ sym (none_at c.self.inside.height c.args.code c.self.inside.widths.entries c.self.inside.rows.items (sym c.in_err-index.ensures.value))
    ∙ ap (λ f. glyph_of f c.args.code) c.self.view_is

pub invariant_of-result : goal.invariant_of-result
invariant_of-result c =
    let i : ℕ = c.in_ok-index.index in
    let h : ℕ = c.self.inside.height in
    good_at h c.args.code c.from.result c.self.inside.widths.entries c.self.inside.rows.items (take (i * h + h - i * h) (drop (i * h) c.deref.result.now)) i c.self.invariant
    (sym c.in_ok-index.ensures.index) (sym c.in_ok-index.ensures.value ∙ ap Some (sym c.from.ensures)) (part_from (i * h) h c.deref.result.now c.self.inside.rows.items c.deref.ensures.value)

pub returns : goal.returns
returns c =
    let i : ℕ = c.in_ok-index.index in
    let h : ℕ = c.self.inside.height in
    (λ j. Some (record { code = c.args.code; width = c.from.result; rows = part_from (i * h) h c.deref.result.now c.self.inside.rows.items c.deref.ensures.value j }))
    ∙ sym (found_at h c.args.code c.from.result c.self.inside.widths.entries c.self.inside.rows.items i (sym c.in_ok-index.ensures.index) (sym c.in_ok-index.ensures.value ∙ ap Some (sym c.from.ensures)))
    ∙ ap (λ f. glyph_of f c.args.code) c.self.view_is

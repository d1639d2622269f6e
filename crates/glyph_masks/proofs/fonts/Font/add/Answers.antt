use Rattle.std.proofs.Common.{ap, ◌∙◌, sym, ◌≡◌, ◌++◌, ◌∷◌, [], false, not, nat_eq, is_some}
use Rattle.std.specs.Map.{lookup}
use Rattle.glyph_masks.specs.Glyphs.{FontView, has_code}
use Rattle.glyph_masks.proofs.FontLemmas.{has_at, appended, kept_on}
use Rattle.glyph_masks.proofs.fonts.Font.add.Goals as goal

pub invariant_of-self-in-Ok : goal.invariant_of-self-in-Ok
invariant_of-self-in-Ok c =
    let f = c.self.inside in
    let new : is_some (lookup (nat_eq c.args.code) f.widths.entries) ≡ false =
    has_at f.height c.args.code f.widths.entries f.rows.items ∙ ap (λ f. has_code f c.args.code) c.self.view_is ∙ sym c.if-has.ensures in
    let rows = appended c.append.result c.append.new.all.items (f.rows.items ++ c.args.rows.now) f.rows.items (c.is_err.ensures.negation ∙ ap not c.if-is_err.false) c.append.ensures in
    (kept_on f.height c.args.code c.args.width f.widths.entries c.insert.new.self.entries f.rows.items c.args.rows.now c.append.new.all.items c.self.invariant
    (c.is_glyph.ensures.0 c.if-not-is_glyph.false) new c.in-Ok.ensures.entries rows).0

pub returns-in-Ok-clause-added : goal.returns-in-Ok-clause-added
returns-in-Ok-clause-added c =
    let f = c.self.inside in
    let new : is_some (lookup (nat_eq c.args.code) f.widths.entries) ≡ false =
    has_at f.height c.args.code f.widths.entries f.rows.items ∙ ap (λ f. has_code f c.args.code) c.self.view_is ∙ sym c.if-has.ensures in
    let rows = appended c.append.result c.append.new.all.items (f.rows.items ++ c.args.rows.now) f.rows.items (c.is_err.ensures.negation ∙ ap not c.if-is_err.false) c.append.ensures in
    let glyphs = (kept_on f.height c.args.code c.args.width f.widths.entries c.insert.new.self.entries f.rows.items c.args.rows.now c.append.new.all.items c.self.invariant
    (c.is_glyph.ensures.0 c.if-not-is_glyph.false) new c.in-Ok.ensures.entries rows).1
    ∙ ap (λ (f : FontView). f.glyphs ++ record { code = c.args.code; width = c.args.width; rows = c.args.rows.now } ∷ []) c.self.view_is in
    let height = ap (λ (f : FontView). f.height) c.self.view_is in
    λ i. record { height = height i; glyphs = glyphs i }

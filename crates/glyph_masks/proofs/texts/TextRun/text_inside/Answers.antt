use Rattle.std.proofs.Common.{◌≡◌, ◌<◌, length, ap, sym, subst, ◌∙◌, arith, to_z, of_z, w32}
use Rattle.std.proofs.lemmas.Int.{ints}
use Rattle.std.specs.List.{All}
use Rattle.qws_base.specs.Sheets.{row_of}
use Rattle.picture_rows.specs.Runs.{IsInside}
use Rattle.picture_rows.proofs.RunLemmas.{inside_row, inside_column}
use Rattle.glyph_masks.specs.Texts.{TextView, text_rect, text_sheet}
use Rattle.glyph_masks.specs.Columns.{text_inks}
use Rattle.glyph_masks.proofs.CellLemmas.{text_made}
use Rattle.glyph_masks.proofs.SpellLemmas.{rows_reach}
use Rattle.glyph_masks.proofs.texts.TextRun.text_inside.Goals as goal

pub places_after-row-requires : goal.places_after-row-requires
places_after-row-requires c =
    let y : to_z w32 (of_z w32 c.args.y) ≡ c.args.y = omega (arith, ints) in
    let top : to_z w32 (of_z w32 c.self.inside.at.y) ≡ c.self.inside.at.y = omega (arith, ints) in
    let some : 0 < length c.args.out.now = grind (arith, c.is_empty.ensures, c.if-is_empty.false) in
    let text : TextView = record { at = c.self.inside.at; ink = c.self.inside.ink; height = c.self.inside.height; glyphs = c.self.inside.glyphs.items } in
    let within = subst (λ t. IsInside (text_rect t) c.args.y c.args.x (length c.args.out.now)) (sym c.self.view_is) c.requires in
    rw (y, top) (inside_row (text_rect text) c.args.y c.args.x (length c.args.out.now) within some)

pub places_after-column-requires : goal.places_after-column-requires
places_after-column-requires c =
    let x : to_z w32 (of_z w32 c.args.x) ≡ c.args.x = omega (arith, ints) in
    let left : to_z w32 (of_z w32 c.self.inside.at.x) ≡ c.self.inside.at.x = omega (arith, ints) in
    let some : 0 < length c.args.out.now = grind (arith, c.is_empty.ensures, c.if-is_empty.false) in
    let text : TextView = record { at = c.self.inside.at; ink = c.self.inside.ink; height = c.self.inside.height; glyphs = c.self.inside.glyphs.items } in
    let within = subst (λ t. IsInside (text_rect t) c.args.y c.args.x (length c.args.out.now)) (sym c.self.view_is) c.requires in
    rw (x, left, c.self.invariant.wide) (inside_column (text_rect text) c.args.y c.args.x (length c.args.out.now) within some)

pub text_inks-requires : goal.text_inks-requires
text_inks-requires c =
    let all = rows_reach c.self.inside.glyphs.items c.self.inside.height c.places_after-row.result c.self.invariant.rows c.places_after-row.ensures.within in
    subst (λ gs. All (λ g. c.places_after-row.result < length g.rows) gs) (sym c.deref.ensures.value) all

pub returns : goal.returns
returns c =
    let x : to_z w32 (of_z w32 c.args.x) ≡ c.args.x = omega (arith, ints) in
    let y : to_z w32 (of_z w32 c.args.y) ≡ c.args.y = omega (arith, ints) in
    let left : to_z w32 (of_z w32 c.self.inside.at.x) ≡ c.self.inside.at.x = omega (arith, ints) in
    let top : to_z w32 (of_z w32 c.self.inside.at.y) ≡ c.self.inside.at.y = omega (arith, ints) in
    let some : 0 < length c.args.out.now = grind (arith, c.is_empty.ensures, c.if-is_empty.false) in
    let text : TextView = record { at = c.self.inside.at; ink = c.self.inside.ink; height = c.self.inside.height; glyphs = c.self.inside.glyphs.items } in
    let within = subst (λ t. IsInside (text_rect t) c.args.y c.args.x (length c.args.out.now)) (sym c.self.view_is) c.requires in
    text_made text c.args.y c.args.x (length c.args.out.now) c.places_after-row.result c.places_after-column.result c.text_inks.new.out within some
    (rw (y, top) at c.places_after-row.ensures.value) (rw (x, left) at c.places_after-column.ensures.value)
    (c.text_inks.ensures ∙ ap (λ gs. text_inks c.self.inside.ink gs c.places_after-row.result c.places_after-column.result (length c.args.out.now)) c.deref.ensures.value)
    ∙ ap (λ t. row_of (text_sheet t) c.args.y c.args.x (length c.args.out.now)) c.self.view_is

use Rattle.std.proofs.Common.{◌∙◌, sym, ap, subst, List, length}
use Rattle.std.specs.List.{filter}
use Rattle.qws_base.specs.RectPixels.{AreDisjoint, rects_pixels}
use Rattle.qws_base.specs.Scenes.{has_ink}
use Rattle.qws_base.specs.Sheets.{Sheet}
use Rattle.qws_base.specs.declared.points.Rect.{Rect}
use Rattle.pixel_model.specs.Drawn.{Drawn}
use Rattle.gfx_painters.specs.Paints.{paint_sheet}
use Rattle.gfx_painters.specs.Plain.{laid}
use Rattle.gfx_painters.proofs.PlainLemmas.{canonical_disjoint, counted_pixels, laid_region}
use Rattle.gfx_painters.proofs.plain.paint_plain.Goals as goal

pub paint_rects-requires-clause-disjoint : goal.paint_rects-requires-clause-disjoint
paint_rects-requires-clause-disjoint c =
    subst (AreDisjoint c.args.canvas.now.setting.size) (sym c.rects.ensures.value) (canonical_disjoint c.args.canvas.now.setting.size c.args.region.now c.rects.ensures.canonical)

pub returns-clause-canvas : goal.returns-clause-canvas
returns-clause-canvas c =
    let old : Drawn = c.args.canvas.now in
    let sheet : Sheet = paint_sheet c.args.paint.now in
    let disjoint = canonical_disjoint old.setting.size c.args.region.now c.rects.ensures.canonical in
    c.paint_rects.ensures.canvas
    ∙ ap (λ (rects : List Rect). let d : Drawn = record old { scene = laid old.setting c.args.origin sheet (rects_pixels old.setting.size.w rects) old.scene } in d) c.rects.ensures.value
    ∙ ap (λ s. let d : Drawn = record old { scene = s } in d) (laid_region old.setting c.args.region.now c.args.origin sheet old.scene c.requires.on_screen disjoint c.pixels-pixels.ensures.len)

pub returns-clause-count : goal.returns-clause-count
returns-clause-count c =
    let old : Drawn = c.args.canvas.now in
    let sheet : Sheet = paint_sheet c.args.paint.now in
    let disjoint = canonical_disjoint old.setting.size c.args.region.now c.rects.ensures.canonical in
    c.paint_rects.ensures.count
    ∙ ap (λ (rects : List Rect). length (filter (has_ink old.setting.size.w c.args.origin sheet) (rects_pixels old.setting.size.w rects))) c.rects.ensures.value
    ∙ counted_pixels old.setting.size c.args.region.now c.requires.on_screen disjoint (has_ink old.setting.size.w c.args.origin sheet)

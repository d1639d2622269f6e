use Rattle.std.proofs.Common.{ℕ, List, length, sym, ap, ◌∙◌, subst, arith}
use Rattle.std.specs.List.{filter}
use Rattle.qws_base.specs.RectPixels.{IsWithin, rect_pixels}
use Rattle.qws_base.specs.Scenes.{has_ink}
use Rattle.qws_base.specs.Sheets.{Sheet}
use Rattle.qws_base.specs.declared.points.Rect.{Rect}
use Rattle.picture_cuts.specs.Cuts.{cut_rect}
use Rattle.picture_cuts.proofs.CutPoints.{cut_within}
use Rattle.picture_cuts.proofs.CutPixels.{inked_pixels, no_part}
use Rattle.pixel_model.specs.Drawn.{Drawn}
use Rattle.gfx_painters.specs.Plain.{laid}
use Rattle.gfx_painters.proofs.PlainLemmas.{laid_cut}
use Rattle.gfx_painters.proofs.plain.paint_part.Goals as goal
use Rattle.gfx_painters.proofs.plain.paint_part.Goals.{then-part-eq0-via-then-part-eq0, then-part-eq0-via-else-part-eq0+then-part-eq0-2}

pub returns-then-part-eq0-clause-canvas : goal.returns-then-part-eq0-clause-canvas
returns-then-part-eq0-clause-canvas g c =
    let sheet : Sheet = g.P.Picture.sheet c.args.picture.now in
    let old : Drawn = c.args.canvas.now in
    let is = c.cut-part.ensures ∙ ap (λ (m : Rect). cut_rect c.args.origin m c.args.rect) c.requires.reach in
    let none = no_part c.args.size.w c.cut-part.result (λ some_w some_h. elim c.then-part-eq0.branch [ then-part-eq0-via-then-part-eq0 w ↦ let e = w.if-part-eq0.true in omega arith | then-part-eq0-via-else-part-eq0+then-part-eq0-2 w ↦ let e = w.if-part-eq0-2.true in omega arith ]) in
    ap (λ (ps : List ℕ). let d : Drawn = record old { scene = laid old.setting c.args.origin sheet ps old.scene } in d) (sym none ∙ ap (rect_pixels c.args.size.w) is)
    ∙ ap (λ (s : List ℕ). let d : Drawn = record old { scene = s } in d) (laid_cut old.setting c.args.size c.args.origin sheet c.args.rect old.scene c.requires.size c.requires.on_screen)

pub returns-then-part-eq0-clause-count : goal.returns-then-part-eq0-clause-count
returns-then-part-eq0-clause-count g c =
    let sheet : Sheet = g.P.Picture.sheet c.args.picture.now in
    let is = c.cut-part.ensures ∙ ap (λ (m : Rect). cut_rect c.args.origin m c.args.rect) c.requires.reach in
    let none = no_part c.args.size.w c.cut-part.result (λ some_w some_h. elim c.then-part-eq0.branch [ then-part-eq0-via-then-part-eq0 w ↦ let e = w.if-part-eq0.true in omega arith | then-part-eq0-via-else-part-eq0+then-part-eq0-2 w ↦ let e = w.if-part-eq0-2.true in omega arith ]) in
    ap (λ ps. length (filter (has_ink c.args.size.w c.args.origin sheet) ps)) (sym none ∙ ap (rect_pixels c.args.size.w) is) ∙ ap length (inked_pixels c.args.size c.args.origin sheet c.args.rect c.requires.on_screen)

pub paint_rect-requires-clause-on_screen : goal.paint_rect-requires-clause-on_screen
paint_rect-requires-clause-on_screen g c = subst (IsWithin c.args.size) (sym c.cut-part.ensures) (cut_within c.args.size c.args.origin c.args.reach c.args.rect c.requires.on_screen)

pub returns-clause-canvas : goal.returns-clause-canvas
returns-clause-canvas g c =
    let sheet : Sheet = g.P.Picture.sheet c.args.picture.now in
    let old : Drawn = c.args.canvas.now in
    let is = c.cut-part.ensures ∙ ap (λ (m : Rect). cut_rect c.args.origin m c.args.rect) c.requires.reach in
    c.paint_rect.ensures.canvas
    ∙ ap (λ (r : Rect). let d : Drawn = record old { scene = laid old.setting c.args.origin sheet (rect_pixels c.args.size.w r) old.scene } in d) is
    ∙ ap (λ (s : List ℕ). let d : Drawn = record old { scene = s } in d) (laid_cut old.setting c.args.size c.args.origin sheet c.args.rect old.scene c.requires.size c.requires.on_screen)

pub returns-clause-count : goal.returns-clause-count
returns-clause-count g c =
    let sheet : Sheet = g.P.Picture.sheet c.args.picture.now in
    let is = c.cut-part.ensures ∙ ap (λ (m : Rect). cut_rect c.args.origin m c.args.rect) c.requires.reach in
    c.paint_rect.ensures.count ∙ ap (λ (r : Rect). length (filter (has_ink c.args.size.w c.args.origin sheet) (rect_pixels c.args.size.w r))) is
    ∙ ap length (inked_pixels c.args.size c.args.origin sheet c.args.rect c.requires.on_screen)

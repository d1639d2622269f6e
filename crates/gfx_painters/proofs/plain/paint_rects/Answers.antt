use Rattle.std.proofs.Common.{◌≡◌, ◌≤◌, ◌+◌, ℕ, List, length, take, get_or, sym, ap, ◌∙◌, subst, arith, pos}
use Rattle.std.specs.List.{filter}
use Rattle.std.proofs.lemmas.Nat.{mul-le}
use Rattle.qws_base.specs.Sides.{Sides}
use Rattle.qws_base.specs.Points.{pixel_count}
use Rattle.qws_base.specs.RectPixels.{rect_pixels, rects_pixels}
use Rattle.qws_base.specs.Scenes.{has_ink}
use Rattle.qws_base.specs.Sheets.{Sheet}
use Rattle.qws_base.specs.declared.points.Rect.{Rect}
use Rattle.qws_base.proofs.PixelRows.{counted_both}
use Rattle.pixel_model.specs.Drawn.{Drawn}
use Rattle.gfx_painters.specs.Plain.{laid}
use Rattle.gfx_painters.proofs.PlainLemmas.{laid-append, front_pixels, rects_more}
use Rattle.gfx_painters.proofs.plain.paint_rects.Goals as goal

pub loop-rect-preserved : goal.loop-rect-preserved
loop-rect-preserved g c =
    let i = c.loop-rect.invariant in
    let sheet : Sheet = g.P.Picture.sheet c.args.picture.now in
    let old : Drawn = c.args.canvas.now in
    let q : Drawn = c.loop-rect.canvas in
    let d : Rect = record { x = pos 0; y = pos 0; w = 0; h = 0 } in
    let j : ℕ = c.loop-rect.rect-index in
    let test = c.loop-rect-test.true in
    let e = c.paint_part-count.ensures in
    let r : Rect = get_or c.args.rects.now j d in
    let w : ℕ = old.setting.size.w in
    let size : c.size-size.result ≡ old.setting.size = c.size-size.ensures in
    let all = rects_more w c.args.rects.now j d (omega arith) in
    let front : List ℕ = rects_pixels w (take j c.args.rects.now) in
    let on : Drawn → List ℕ → Drawn = λ q ps. record q { scene = laid q.setting c.args.origin sheet ps q.scene } in
    record {
      room = e.room;
      canvas = e.canvas ∙ ap (λ (s : Sides). on q (rect_pixels s.w r)) size ∙ ap (λ (q : Drawn). on q (rect_pixels w r)) i.canvas
          ∙ ap (λ (s : List ℕ). let x : Drawn = record old { scene = s } in x) (sym (ap (λ ps. laid old.setting c.args.origin sheet ps old.scene) all ∙ laid-append old.setting c.args.origin sheet front (rect_pixels w r) old.scene));
      counted = counted_both (has_ink w c.args.origin sheet) front (rect_pixels w r) (rects_pixels w (take (j + 1) c.args.rects.now)) c.loop-rect.count c.paint_part-count.result i.counted
          (e.count ∙ ap (λ (s : Sides). length (filter (has_ink s.w c.args.origin sheet) (rect_pixels s.w r))) size) all;
    }

pub overflow_add-count : goal.overflow_add-count
overflow_add-count g c =
    let i = c.loop-rect.invariant in
    let few = front_pixels c.args.canvas.now.setting.size c.args.rects.now c.requires.on_screen c.requires.disjoint (has_ink c.args.canvas.now.setting.size.w c.args.origin (g.P.Picture.sheet c.args.picture.now)) c.loop-rect.rect-index in
    let size = c.size-size.ensures in
    let screen = c.w-width.ensures.is_screen in
    let most : pixel_count c.args.canvas.now.setting.size ≤ 307200 = subst (λ (s : Sides). pixel_count s ≤ 307200) size (mul-le c.size-size.result.w c.size-size.result.h 640 480 screen.most_w screen.most_h) in
    let more = c.paint_part-count.ensures.few in
    let counted = i.counted in
    omega arith

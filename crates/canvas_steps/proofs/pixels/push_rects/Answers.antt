use Rattle.std.proofs.Common.{List, ◌++◌, append-nil, sym, ap, ◌∙◌, arith, pos}
use Rattle.std.proofs.lemmas.List.{take_all}
use Rattle.qws_base.specs.RectPixels.{rects_pixels}
use Rattle.qws_base.specs.declared.points.Rect.{Rect}
use Rattle.canvas_steps.proofs.Pushing.{rects_more}
use Rattle.canvas_steps.proofs.pixels.push_rects.Goals as goal

pub loop-rect-init : goal.loop-rect-init
loop-rect-init c = sym (append-nil c.args.pixels.now.items)

pub loop-rect-preserved : goal.loop-rect-preserved
loop-rect-preserved c =
    let d : Rect = record { x = pos 0; y = pos 0; w = 0; h = 0 } in
    let test = c.loop-rect-test.true in
    rects_more c.args.size.w c.args.rects.now c.args.pixels.now.items c.loop-rect.pixels.items _ c.loop-rect.rect-index d (omega arith) c.loop-rect.invariant c.in_ok-push_rect.ensures

pub returns : goal.returns
returns c =
    let past = c.loop-rect-test.false in
    c.loop-rect.invariant ∙ ap (λ (l : List Rect). c.args.pixels.now.items ++ rects_pixels c.args.size.w l) (take_all c.loop-rect.rect-index c.args.rects.now (omega arith))

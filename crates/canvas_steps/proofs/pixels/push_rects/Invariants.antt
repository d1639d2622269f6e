use Rattle.std.proofs.Common.{◌≡◌, ◌++◌, take}
use Rattle.qws_base.specs.RectPixels.{rects_pixels}
use Rattle.canvas_steps.proofs.pixels.push_rects.Given as goal

abbrev pub invariant-loop-rect : goal.invariant-loop-rect
invariant-loop-rect l = l.pixels.items ≡ l.fn.pixels.items ++ rects_pixels l.fn.size.w (take l.rect-index l.rects)

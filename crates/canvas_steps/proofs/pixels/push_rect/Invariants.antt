use Rattle.std.proofs.Common.{◌≡◌, ◌++◌}
use Rattle.qws_base.proofs.PixelRows.{rows_of}
use Rattle.canvas_steps.proofs.pixels.push_rect.Given as goal

abbrev pub invariant-loop-i : goal.invariant-loop-i
invariant-loop-i l = l.pixels.items ≡ l.fn.pixels.items ++ rows_of l.fn.size.w l.fn.rect l.i

use Rattle.std.proofs.Common.{◌≡◌, map, take}
use Rattle.qws_base.specs.Points.{shifted}
use Rattle.window_arrangements.proofs.requests.moved.Given as goal

-- the rectangles so far, moved
abbrev pub invariant-loop-rect : goal.invariant-loop-rect
invariant-loop-rect l = l.all.items ≡ map (shifted l.origin) (take l.rect-index l.rects)

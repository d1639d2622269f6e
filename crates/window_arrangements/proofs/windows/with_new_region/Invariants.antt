use Rattle.std.proofs.Common.{◌≡◌, map, take}
use Rattle.qws_base.specs.Stacking.{with_region}
use Rattle.window_arrangements.proofs.windows.with_new_region.Given as goal

-- the windows so far, changed
abbrev pub invariant-loop-window : goal.invariant-loop-window
invariant-loop-window l = l.all.items ≡ map (with_region l.slot l.origin l.rects) (take l.window-index l.windows)

use Rattle.std.proofs.Common.{◌≡◌, map, take}
use Rattle.qws_base.specs.Stacking.{with_origin}
use Rattle.window_arrangements.proofs.windows.with_new_origin.Given as goal

-- the windows so far, changed
abbrev pub invariant-loop-window : goal.invariant-loop-window
invariant-loop-window l = l.all.items ≡ map (with_origin l.slot l.origin) (take l.window-index l.windows)

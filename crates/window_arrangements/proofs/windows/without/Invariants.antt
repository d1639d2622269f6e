use Rattle.std.proofs.Common.{◌≡◌, take}
use Rattle.qws_base.specs.Stacking.{windows_without}
use Rattle.window_arrangements.proofs.windows.without.Given as goal

-- the windows so far, without that of the slot
abbrev pub invariant-loop-window : goal.invariant-loop-window
invariant-loop-window l = l.others.items ≡ windows_without l.slot (take l.window-index l.windows)

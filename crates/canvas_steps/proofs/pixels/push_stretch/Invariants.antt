use Rattle.std.proofs.Common.{◌≡◌, ◌++◌}
use Rattle.std.specs.List.{range_with_len}
use Rattle.canvas_steps.proofs.pixels.push_stretch.Given as goal

abbrev pub invariant-loop-j : goal.invariant-loop-j
invariant-loop-j l = l.pixels.items ≡ l.fn.pixels.items ++ range_with_len l.fn.first l.j

use Rattle.std.proofs.Common.{◌≡◌, not}
use Rattle.std.specs.List.{filter}
use Rattle.window_arrangements.specs.Lists.{is_from}
use Rattle.window_arrangements.proofs.windows.put_behind.Given as goal

-- the windows so far, parted by their layers
abbrev pub invariant-loop-other : goal.invariant-loop-other
invariant-loop-other l = record {
  front : l.front.items ≡ filter (is_from l.layer) l.yielded;
  back : l.back.items ≡ filter (λ w. not (is_from l.layer w)) l.yielded;
}

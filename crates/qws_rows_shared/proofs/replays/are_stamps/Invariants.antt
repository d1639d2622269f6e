use Rattle.std.proofs.Common.{◌≤◌, take}
use Rattle.std.specs.Prelude.{All}
use Rattle.std.specs.List.{AllAdjacentBelow}
use Rattle.qws_rows_shared.proofs.replays.are_stamps.Given as goal

-- none so far is above the last, or below the one before it
abbrev pub invariant-loop-k : goal.invariant-loop-k
invariant-loop-k l = record {
  within : All (λ e. e.stamp ≤ l.last) (take l.k l.entries);
  rising : AllAdjacentBelow (λ x y. x.stamp ≤ y.stamp) l.entries l.k;
}

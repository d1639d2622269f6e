use Rattle.std.proofs.Common.{◌≡◌, ◌+◌, ◌-◌, ◌++◌, ◌≤◌, length, map, take, drop}
use Rattle.session_journal.specs.Merging.{paint_of, entries_below}
use Rattle.session_journal.proofs.merging.push_paints.Given as goal

abbrev pub invariant-loop-at : goal.invariant-loop-at
invariant-loop-at l = record {
  from : l.from ≤ l.at;
  to : l.at ≤ entries_below (l.stamp + 1) l.book;
  entries : l.entries.items ≡ l.fn.entries.items ++ map (λ e. (paint_of l.client e).entry) (take (l.at - l.from) (drop l.from l.book));
}

abbrev pub decreases-loop-at : goal.decreases-loop-at
decreases-loop-at l = length l.book - l.at

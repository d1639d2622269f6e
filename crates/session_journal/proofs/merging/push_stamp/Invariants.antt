use Rattle.std.proofs.Common.{◌≡◌, ◌+◌, ◌++◌, ◌<◌, ◌≤◌, ℕ, length, get_or, map, take}
use Rattle.std.specs.List.{flat_map}
use Rattle.qws_base.specs.Books.{BookView}
use Rattle.qws_base.specs.Merges.{stamped}
use Rattle.session_journal.specs.Merging.{paints_of, entries_below}
use Rattle.session_journal.proofs.merging.push_stamp.Given as goal

abbrev pub invariant-loop-k : goal.invariant-loop-k
invariant-loop-k l = record {
  done : (j : ℕ) (d : BookView) → j < l.k → get_or l.places j 0 ≡ entries_below (l.stamp + 1) (get_or l.books j d).entries;
  left : (j : ℕ) (d : BookView) → l.k ≤ j → j < length l.books → get_or l.places j 0 ≡ entries_below l.stamp (get_or l.books j d).entries;
  paints : l.entries.items ≡ l.fn.entries.items ++ flat_map (stamped l.stamp) (map paints_of (take l.k l.books));
}

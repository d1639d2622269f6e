use Rattle.std.proofs.Common.{◌≡◌, map}
use Rattle.std.specs.List.{flat_map, range_with_len}
use Rattle.qws_base.specs.Merges.{merged_at}
use Rattle.session_journal.specs.Merging.{step_of, paints_of, entries_below}
use Rattle.session_journal.proofs.merging.merge.Given as goal

abbrev pub invariant-loop-number : goal.invariant-loop-number
invariant-loop-number l = record {
  places : l.places.items ≡ map (λ book. entries_below l.number book.entries) l.books;
  entries : l.entries.items ≡ flat_map (merged_at (map step_of l.journal) (map paints_of l.books)) (range_with_len 0 l.number);
}

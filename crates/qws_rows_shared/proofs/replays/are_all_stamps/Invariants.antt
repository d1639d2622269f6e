use Rattle.std.proofs.Common.{take}
use Rattle.std.specs.Prelude.{All}
use Rattle.session_journal.specs.Merging.{AreStamps}
use Rattle.qws_rows_shared.proofs.replays.are_all_stamps.Given as goal

-- the books so far have stamps
abbrev pub invariant-loop-k : goal.invariant-loop-k
invariant-loop-k l = All (λ book. AreStamps l.last book.entries) (take l.k l.books)

use Rattle.std.proofs.Common.{◌≡◌, ◌≤◌, ◌+◌, length}
use Rattle.qws_base.proofs.StreamLemmas.{Gathered}
use Rattle.qws_base.proofs.streams.read_all.Given as goal

abbrev pub invariant-loop-bytes : goal.invariant-loop-bytes
invariant-loop-bytes g l = record {
  gathered : Gathered (g.S.Source.left l.fn.source) l.bytes.items (g.S.Source.left l.source);
  room : l.room + length l.bytes.items ≡ l.limit;
  faults : g.S.Source.faults l.source ≡ g.S.Source.faults l.fn.source;
  reads : g.S.Source.reads l.source + l.room ≤ g.S.Source.reads l.fn.source + l.limit;
}

abbrev pub decreases-loop-bytes : goal.decreases-loop-bytes
decreases-loop-bytes g l = l.room

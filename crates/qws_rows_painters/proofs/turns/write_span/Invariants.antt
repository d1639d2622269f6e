use Rattle.std.proofs.Common.{◌≤◌}
use Rattle.display_lock.specs.Turns.{IsOpenServer, SameServerTurn}
use Rattle.qws_rows_painters.specs.Heads.{Writes}
use Rattle.qws_rows_painters.proofs.turns.write_span.Given as goal

abbrev pub invariant-loop-index : goal.invariant-loop-index
invariant-loop-index l = record {
  same : SameServerTurn l.fn.turn l.turn;
  is_open : IsOpenServer l.turn;
  low : l.from ≤ l.index;
  head : Writes l.from l.index l.words l.fn.turn.head.now l.turn.head.now;
}

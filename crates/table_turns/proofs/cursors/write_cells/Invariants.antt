use Rattle.display_lock.specs.Turns.{IsOpenServer, SameServerTurn}
use Rattle.table_turns.specs.Writes.{OnlyTable, Sets, nth_cell}
use Rattle.table_turns.proofs.cursors.write_cells.Given as goal

abbrev pub invariant-loop-k : goal.invariant-loop-k
invariant-loop-k l = record {
  same : SameServerTurn l.fn.turn l.turn;
  is_open : IsOpenServer l.turn;
  head : OnlyTable l.fn.turn.head.now l.turn.head.now;
  words : Sets 4 l.k (nth_cell l.cursor) l.fn.turn.head.now.server.present l.turn.head.now.server.present;
}

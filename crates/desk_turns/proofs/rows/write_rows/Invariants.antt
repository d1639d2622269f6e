use Rattle.std.proofs.Common.{take}
use Rattle.display_lock.specs.Turns.{IsOpenServer, SameServerTurn}
use Rattle.table_turns.specs.Writes.{OnlyTable}
use Rattle.desk_turns.specs.Rows.{WritesRows}
use Rattle.desk_turns.proofs.rows.write_rows.Given as goal

abbrev pub invariant-loop-slot : goal.invariant-loop-slot
invariant-loop-slot l = record {
  same : SameServerTurn l.fn.turn l.turn;
  is_open : IsOpenServer l.turn;
  head : OnlyTable l.fn.turn.head.now l.turn.head.now;
  words : WritesRows l.plan (take l.slot-index l.plan.risen) l.fn.turn.head.now.server.present l.turn.head.now.server.present;
}

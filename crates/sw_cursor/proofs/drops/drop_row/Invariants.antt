use Rattle.std.proofs.Common.{◌*◌}
use Rattle.turn_logs.specs.Phases.{IsTrueLog}
use Rattle.display_lock.specs.Turns.{IsOpenServer, SameServerTurn}
use Rattle.sw_cursor.specs.Lifts.{OnlyLogs, AddsCells, drop_one}
use Rattle.sw_cursor.proofs.drops.drop_row.Given as goal

abbrev pub invariant-loop-column : goal.invariant-loop-column
invariant-loop-column l = record {
  same : SameServerTurn l.fn.turn l.turn;
  is_open : IsOpenServer l.turn;
  head : OnlyLogs l.fn.turn.head.now l.turn.head.now;
  log : AddsCells (drop_one l.fn.turn.screen.now.setting.depth l.size l.cursor) (l.row * l.cursor.w) l.column l.fn.turn.head.now.server.log l.turn.head.now.server.log;
  true_log : IsTrueLog l.fn.turn.head.now.server.log → IsTrueLog l.turn.head.now.server.log;
}

use Rattle.std.proofs.Common.{◌*◌}
use Rattle.turn_logs.specs.Phases.{IsTrueLog}
use Rattle.display_lock.specs.Turns.{IsOpenServer, SameServerTurn}
use Rattle.sw_cursor.specs.Covers.{bare_cursor}
use Rattle.sw_cursor.specs.Lifts.{OnlyLogs, AddsCells, lift_one}
use Rattle.sw_cursor.proofs.lifts.lift_row.Given as goal

abbrev pub invariant-loop-column : goal.invariant-loop-column
invariant-loop-column l = record {
  same : SameServerTurn l.fn.turn l.turn;
  is_open : IsOpenServer l.turn;
  head : OnlyLogs l.fn.turn.head.now l.turn.head.now;
  log : AddsCells (lift_one l.size (bare_cursor l.cover)) (l.row * l.cover.w) l.column l.fn.turn.head.now.server.log l.turn.head.now.server.log;
  true_log : IsTrueLog l.fn.turn.head.now.server.log → IsTrueLog l.turn.head.now.server.log;
}

use Rattle.std.proofs.Common.{◌*◌}
use Rattle.turn_logs.specs.Phases.{IsTrueLog}
use Rattle.display_lock.specs.Turns.{IsOpenServer, SameServerTurn}
use Rattle.sw_cursor.specs.Covers.{bare_cursor}
use Rattle.sw_cursor.specs.Lifts.{OnlyLogs, AddsCells, lift_one}
use Rattle.sw_cursor.proofs.lifts.lift_cells.Given as goal

abbrev pub invariant-loop-row : goal.invariant-loop-row
invariant-loop-row l = record {
  same : SameServerTurn l.fn.turn l.turn;
  is_open : IsOpenServer l.turn;
  head : OnlyLogs l.fn.turn.head.now l.turn.head.now;
  log : AddsCells (lift_one l.size (bare_cursor l.cover)) 0 (l.row * l.cover.w) l.fn.turn.head.now.server.log l.turn.head.now.server.log;
  true_log : IsTrueLog l.fn.turn.head.now.server.log → IsTrueLog l.turn.head.now.server.log;
}

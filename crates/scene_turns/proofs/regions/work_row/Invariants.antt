use Rattle.turn_logs.specs.Phases.{IsTrueLog}
use Rattle.display_lock.specs.Turns.{IsOpenServer, SameServerTurn}
use Rattle.sw_cursor.specs.Lifts.{OnlyLogs}
use Rattle.scene_turns.specs.Works.{Works, is_falling}
use Rattle.scene_turns.specs.Sweeps.{row_part}
use Rattle.scene_turns.proofs.regions.work_row.Given as goal

abbrev pub invariant-loop-j : goal.invariant-loop-j
invariant-loop-j l = record {
  same : SameServerTurn l.fn.turn l.turn;
  is_open : IsOpenServer l.turn;
  head : OnlyLogs l.fn.turn.head.now l.turn.head.now;
  log : Works l.work (row_part (is_falling l.work) l.size.w l.rects l.y l.j) l.fn.turn.head.now.server.log l.turn.head.now.server.log;
  true_log : IsTrueLog l.fn.turn.head.now.server.log → IsTrueLog l.turn.head.now.server.log;
}

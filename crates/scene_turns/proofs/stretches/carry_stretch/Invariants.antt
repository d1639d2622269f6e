use Rattle.turn_logs.specs.Phases.{IsTrueLog}
use Rattle.display_lock.specs.Turns.{IsOpenServer, SameServerTurn}
use Rattle.sw_cursor.specs.Lifts.{OnlyLogs}
use Rattle.scene_turns.specs.declared.works.Work.TheVariants.{Carry}
use Rattle.scene_turns.specs.Works.{Works}
use Rattle.scene_turns.proofs.Working.{stretch_part}
use Rattle.scene_turns.proofs.stretches.carry_stretch.Given as goal

abbrev pub invariant-loop-j : goal.invariant-loop-j
invariant-loop-j l = record {
  same : SameServerTurn l.fn.turn l.turn;
  is_open : IsOpenServer l.turn;
  head : OnlyLogs l.fn.turn.head.now l.turn.head.now;
  log : Works (Carry l.falling l.by) (stretch_part l.falling l.first l.count l.j) l.fn.turn.head.now.server.log l.turn.head.now.server.log;
  true_log : IsTrueLog l.fn.turn.head.now.server.log → IsTrueLog l.turn.head.now.server.log;
}

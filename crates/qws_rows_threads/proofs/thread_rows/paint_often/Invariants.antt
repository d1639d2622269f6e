use Rattle.std.proofs.Common.{◌≤◌}
use Rattle.qws_rows_threads.specs.Tokens.{HasPainted}
use Rattle.qws_rows_threads.proofs.thread_rows.paint_often.Given as goal

abbrev pub invariant-loop : goal.invariant-loop
invariant-loop g l = record { few : l.done ≤ l.paints; painted : HasPainted l.done l.initial.pass l.pass }

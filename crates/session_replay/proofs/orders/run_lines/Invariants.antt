use Rattle.std.proofs.Common.{take}
use Rattle.session_replay.specs.Runs.{named}
use Rattle.session_replay.specs.Steps.{IsReplay, IsCommented}
use Rattle.session_replay.proofs.orders.run_lines.Given as goal

abbrev pub invariant-loop-j : goal.invariant-loop-j
invariant-loop-j l = record {
  replay : IsReplay l.script (named l.script (take l.j l.order)) l.run.replay;
  text : IsCommented (named l.script (take l.j l.order)) l.run.text.items;
}

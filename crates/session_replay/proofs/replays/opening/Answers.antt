use Rattle.session_replay.proofs.Opening.{opening_replay_world}
use Rattle.session_replay.proofs.replays.opening.Goals as goal

pub returns : goal.returns
returns c = record {
  world = opening_replay_world c.args.script.now c.in_ok-core.core c.in_ok-canvas.canvas c.size-size.result c.depth.result c.backdrop.result c.backdrop-2.result c.size-size.ensures c.depth.ensures c.backdrop.ensures c.backdrop-2.ensures c.in_ok-core.ensures c.in_ok-canvas.ensures;
  callers = c.in_ok-callers.ensures;
}

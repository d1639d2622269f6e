use Rattle.std.proofs.Common.{◌≡◌}
use Rattle.clip_refetch.specs.Clips.{IsKnown}
use Rattle.shared_painter.specs.Answers.{IsBack, KeepsOthers}
use Rattle.client_session.proofs.paints.draw.Given as goal

-- while the server has a turn, the pass makes no paint, and keeps what it kept
abbrev pub invariant-loop : goal.invariant-loop
invariant-loop g l = record {
  back : IsBack l.fn.pass l.pass;
  own : l.pass.client.own ≡ l.fn.pass.client.own;
  clip : l.clip ≡ l.fn.clip;
  known : IsKnown l.pass.client l.clip;
  others : KeepsOthers l.fn.clip.slot l.fn.pass.client l.pass.client;
}

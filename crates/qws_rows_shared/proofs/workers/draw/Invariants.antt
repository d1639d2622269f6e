use Rattle.clip_refetch.specs.Clips.{IsKnown}
use Rattle.qws_rows_shared.specs.Sessions.{IsAtRest}
use Rattle.qws_rows_shared.proofs.workers.draw.Given as goal

-- while the server has a turn, the pass is at rest, and knows its clip
abbrev pub invariant-loop : goal.invariant-loop
invariant-loop g l = record { rest : IsAtRest l.screen l.pass; known : IsKnown l.pass.client l.clip }

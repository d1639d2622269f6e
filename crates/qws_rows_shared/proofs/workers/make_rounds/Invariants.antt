use Rattle.clip_refetch.specs.Clips.{IsKnown}
use Rattle.qws_rows_shared.specs.Callers.{IsBackFrom}
use Rattle.qws_rows_shared.proofs.workers.make_rounds.Given as goal

-- the caller is back from the rounds so far, and knows its clip
abbrev pub invariant-loop-round : goal.invariant-loop-round
invariant-loop-round g l = record { back : IsBackFrom l.desk l.screen l.initial.caller l.caller; known : IsKnown l.caller.pass.client l.painter.clip }

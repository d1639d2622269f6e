use Rattle.std.proofs.Common.{length}
use Rattle.script_reader.specs.Stages.{stage_before}
use Rattle.script_reader.proofs.Folds.{IsReadUpTo}
use Rattle.script_reader.proofs.openings.opening.Given as goal

abbrev pub invariant-loop-text : goal.invariant-loop-text
invariant-loop-text l = IsReadUpTo l.fn.bytes (stage_before l.stage) l.number l.rest

abbrev pub decreases-loop-text : goal.decreases-loop-text
decreases-loop-text l = length l.rest

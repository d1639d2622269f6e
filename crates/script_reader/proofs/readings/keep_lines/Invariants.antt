use Rattle.std.proofs.Common.{length}
use Rattle.script_reader.proofs.Kept.{IsKeptTo}
use Rattle.script_reader.proofs.readings.keep_lines.Given as goal

abbrev pub invariant-loop-text : goal.invariant-loop-text
invariant-loop-text l = IsKeptTo l.fn.bytes l.fn.head l.body l.number l.rest

abbrev pub decreases-loop-text : goal.decreases-loop-text
decreases-loop-text l = length l.rest

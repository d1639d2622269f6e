use Rattle.std.proofs.Common.{length}
use Rattle.script_reader.proofs.Gathered.{IsGathered}
use Rattle.script_reader.proofs.words.line_words.Given as goal

abbrev pub invariant-loop-word : goal.invariant-loop-word
invariant-loop-word l = IsGathered l.text l.words.items l.rest

abbrev pub decreases-loop-word : goal.decreases-loop-word
decreases-loop-word l = length l.rest

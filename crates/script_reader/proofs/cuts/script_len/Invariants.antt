use Rattle.std.proofs.Common.{◌≡◌, ◌+◌, length}
use Rattle.script_grammar.specs.Reading.{text_lines}
use Rattle.script_reader.specs.Cuts.{through_end}
use Rattle.script_reader.proofs.cuts.script_len.Given as goal

abbrev pub invariant-loop-text : goal.invariant-loop-text
invariant-loop-text l = record {
  value : through_end (text_lines l.fn.bytes) ≡ l.len + through_end (text_lines l.rest);
  all : l.len + length l.rest ≡ length l.fn.bytes;
}

abbrev pub decreases-loop-text : goal.decreases-loop-text
decreases-loop-text l = length l.rest

use Rattle.std.proofs.Common.{◌≡◌}
use Rattle.turn_logs.specs.Tables.{opening_words}
use Rattle.qws_rows_painters.proofs.turns.opening.Given as goal

abbrev pub invariant-loop-index : goal.invariant-loop-index
invariant-loop-index l = l.words.items ≡ opening_words l.index

use Rattle.std.proofs.Common.{◌≡◌}
use Rattle.turn_logs.specs.Tables.{opening_words}
use Rattle.fb_words.proofs.seats.opening_table.Given as goal

abbrev pub invariant-loop-index : goal.invariant-loop-index
invariant-loop-index l = l.words.items ≡ opening_words l.index

use Rattle.std.proofs.Common.{◌≡◌}
use Rattle.qws_rows_scripts.proofs.call_rows.after_creates.Given as goal

abbrev pub invariant-loop-k : goal.invariant-loop-k
invariant-loop-k l = l.names.client ≡ 0

use Rattle.std.proofs.Common.{◌≡◌, take}
use Rattle.qws_rows_core.proofs.arrangements.copied.Given as goal

abbrev pub invariant-loop-region : goal.invariant-loop-region
invariant-loop-region l = l.copy.items ≡ take l.region-index l.regions

use Rattle.std.proofs.Common.{◌≡◌, take}
use Rattle.window_arrangements.proofs.requests.with_request.Given as goal

-- the requests so far
abbrev pub invariant-loop-region : goal.invariant-loop-region
invariant-loop-region l = l.all.items ≡ take l.region-index l.requests

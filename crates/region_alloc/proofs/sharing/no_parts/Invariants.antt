use Rattle.std.proofs.Common.{◌≡◌, false, length}
use Rattle.std.specs.Prelude.{All}
use Rattle.qws_base.specs.Regions.{IsRegionOf}
use Rattle.region_alloc.proofs.sharing.no_parts.Given as goal

abbrev pub invariant-loop-slot : goal.invariant-loop-slot
invariant-loop-slot l = record { count : length l.parts.items ≡ l._slot; none : All (λ part. IsRegionOf part (λ p. false)) l.parts.items }

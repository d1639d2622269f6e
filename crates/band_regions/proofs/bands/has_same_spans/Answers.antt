use Rattle.band_regions.proofs.Lemmas.{ap, arith, of_z, w32, same_at, no_rect}
use Rattle.band_regions.proofs.bands.has_same_spans.Goals as goal
use Rattle.band_regions.proofs.bands.has_same_spans.Goals.{then-r-s-via-then-r-s, then-r-s-via-else-r-s+then-r-s-2}

pub returns-then-r-s : goal.returns-then-r-s
returns-then-r-s c = (
  λ h. absurd (cc h),
  λ e. let at = same_at c.args.first.now c.args.second.now c.loop-i.i no_rect (omega arith) (omega arith) e in
      elim c.then-r-s.branch [ then-r-s-via-then-r-s w ↦ absurd (w.if-r-s.true (ap (λ t. of_z w32 t.0) at)) | then-r-s-via-else-r-s+then-r-s-2 w ↦ absurd (w.if-r-s-2.true (ap (λ t. t.1) at)) ],
)

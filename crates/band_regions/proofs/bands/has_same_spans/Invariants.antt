use Rattle.band_regions.proofs.Lemmas.{◌≡◌, take, map, span_of}
use Rattle.band_regions.proofs.bands.has_same_spans.Given as goal

abbrev pub invariant-loop-i : goal.invariant-loop-i
invariant-loop-i l = map span_of (take l.i l.first) ≡ map span_of (take l.i l.second)

use Rattle.band_regions.proofs.Lemmas.{◌≡◌, take}
use Rattle.band_regions.proofs.regions.is_same_list.Given as goal

abbrev pub invariant-loop-i : goal.invariant-loop-i
invariant-loop-i l = take l.i l.first ≡ take l.i l.second

use Rattle.band_regions.proofs.Lemmas.{take_rest, region_split}
use Rattle.band_regions.proofs.regions.Region.+of_rects.Goals as goal

pub returns-in_ok-region-in_default : goal.returns-in_ok-region-in_default
returns-in_ok-region-in_default t c = region_split c.max-cut.result c.args.rects.now c.in_ok-first-in_default.first c.in_ok-second-in_default.second c.in_ok-region-in_default.region
    c.in_ok-first-in_default.ensures (rw take_rest at c.in_ok-second-in_default.ensures) c.in_ok-region-in_default.ensures

use Rattle.std.proofs.Common.{◌≡◌, Bool, true, false, not, refl, sym, ap, subst}
use Rattle.std.proofs.lemmas.Bool.{false≢true}
use Rattle.qws_base.specs.Regions.{IsRegionOf, same_pixels}
use Rattle.qws_base.specs.Windows.{allocated_points}
use Rattle.window_arrangements.proofs.CheckLemmas.{allocated_on}
use Rattle.window_arrangements.proofs.checks.is_modified.Goals as goal

both_ways : (a b : Bool) → (a ≡ true → b ≡ true) → (b ≡ true → a ≡ true) → a ≡ b
both_ways true true f g = refl
both_ways true false f g = absurd (false≢true (f refl))
both_ways false true f g = absurd (false≢true (g refl))
both_ways false false f g = refl

pub returns : goal.returns
returns c =
    let size = c.args.before.now.size in
    let old = allocated_points size c.args.before.now.windows c.args.slot in
    let new = allocated_points size c.args.after.now.windows c.args.slot in
    let region = subst (λ s. IsRegionOf c.region-2.result.now (allocated_points s c.args.after.now.windows c.args.slot)) (sym c.requires.size) c.region-2.ensures in
    ap not (both_ways c.is_same.result (same_pixels size old new)
    (λ h. c.one_list_for_a_set.ensures.pixels size c.region.result.now c.region-2.result.now old new c.region.ensures region (c.is_same.ensures.list.0 h))
    (λ h. c.is_same.ensures.list.1 (c.one_list_for_a_set.ensures.lists size c.region.result.now c.region-2.result.now old new (allocated_on size c.args.before.now.windows c.args.slot) (allocated_on size c.args.after.now.windows c.args.slot) c.region.ensures region h)))

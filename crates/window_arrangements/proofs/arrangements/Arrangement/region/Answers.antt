use Rattle.std.proofs.Common.{sym, subst}
use Rattle.qws_base.specs.Regions.{IsRegionOf}
use Rattle.qws_base.specs.Windows.{allocated_points}
use Rattle.region_alloc.specs.Allocations.{IsAllocation, windows_asking}
use Rattle.window_arrangements.specs.Arrangements.{ArrangementView}
use Rattle.window_arrangements.proofs.arrangements.Arrangement.region.Goals as goal

pub returns : goal.returns
returns c =
    let a = c.self.inside in
    let shared = subst (λ stack. IsAllocation a.size (windows_asking a.requests.items stack) a.allocation) c.self.invariant.stacked c.self.invariant.shared in
    let whole = c.allocation_of_windows.ensures a.size a.windows.items a.requests.items a.allocation c.self.invariant.asked shared in
    subst (λ (v : ArrangementView). IsRegionOf c.region.result.now (allocated_points v.size v.windows c.args.slot)) c.self.view_is
    (subst (λ rects. IsRegionOf rects (allocated_points a.size a.windows.items c.args.slot)) (sym c.region.ensures) (whole.each c.args.slot c.requires))

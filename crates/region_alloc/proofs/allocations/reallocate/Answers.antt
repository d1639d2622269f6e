use Rattle.std.proofs.Common.{◌≡◌, ◌∷◌, ◌++◌, ◌<◌, [], length, ap, ◌∙◌, arith, length-append}
use Rattle.std.proofs.lemmas.List.{get_or_default}
use Rattle.qws_base.specs.Regions.{IsRegionOf}
use Rattle.qws_base.specs.Windows.{allocated_points}
use Rattle.region_alloc.specs.Allocations.{windows_asking}
use Rattle.region_alloc.proofs.AllocationLaws.{each_more, renewed_read}
use Rattle.region_alloc.proofs.allocations.reallocate.Goals as goal

pub loop-slot-preserved : goal.loop-slot-preserved
loop-slot-preserved c =
    let items : c.push.new.self.items ≡ c.loop-slot.regions.items ++ c.in_ok-region.region ∷ [] = c.in_ok-push.ensures.items in
    let low : c.loop-slot.slot < 32 = c.loop-slot-test.true in
    record {
      count = omega (arith, ap length items, length-append c.loop-slot.regions.items (c.in_ok-region.region ∷ []), c.loop-slot.invariant.count);
      each = each_more (λ slot rects. IsRegionOf rects (allocated_points c.args.screen (windows_asking c.args.requests.now c.args.stack.now) slot))
          c.loop-slot.regions.items c.push.new.self.items c.in_ok-region.region c.loop-slot.slot items c.loop-slot.invariant.count c.loop-slot.invariant.each
          (renewed_read c.args.screen (windows_asking c.args.requests.now c.args.stack.now) c.args.changed.now c.in_ok-whole_screen.field-0 c.in_ok-ground.ground c.in_ok-parts.parts.items c.args.old.now c.in_ok-region.region
          c.region.result.now c.index.result.now c.loop-slot.slot low c.region.ensures
          (c.index.ensures ∙ get_or_default c.in_ok-parts.parts.items c.loop-slot.slot c.index.result.now [] (omega (arith, low, c.in_ok-parts.ensures.count)))
          c.in_ok-whole_screen.ensures c.in_ok-ground.ensures c.in_ok-parts.ensures c.requires.outside c.in_ok-region.ensures);
    }

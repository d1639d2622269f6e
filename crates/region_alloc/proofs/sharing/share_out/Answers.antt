use Rattle.std.proofs.Common.{◌∙◌, [], arith}
use Rattle.std.proofs.lemmas.List.{get_or_default}
use Rattle.qws_base.specs.Stacking.{new_window}
use Rattle.region_alloc.specs.Allocations.{asking, windows_asking, of_slot}
use Rattle.region_alloc.proofs.ShareLemmas.{taken_of, shared_none, shared_more, next_asking, covers_asked}
use Rattle.region_alloc.proofs.sharing.share_out.Goals as goal

pub loop-k-init : goal.loop-k-init
loop-k-init c = shared_none c.args.ground (windows_asking c.args.requests.now c.args.stack.now) c.in_ok-parts.parts.items c.in_ok-parts.ensures.count c.in_ok-parts.ensures.none

pub loop-k-preserved : goal.loop-k-preserved
loop-k-preserved c =
    shared_more c.args.ground (windows_asking c.args.requests.now c.args.stack.now) c.loop-k.k c.loop-k.ground c.loop-k.parts.items
    (asking c.args.requests.now (new_window c.at-slot.result.0 c.at-slot.result.1 c.at-slot.result.2)) (of_slot c.args.requests.now c.at-slot.result.0) c.in_ok-part.part c.take.new.ground
    (next_asking c.args.requests.now c.args.stack.now c.loop-k.k c.at-slot.result.0 c.at-slot.result.1 c.at-slot.result.2 c.at-slot.ensures.window c.at-slot.ensures.slot c.len-k-end.ensures.stack)
    (λ p. covers_asked c.args.requests.now (new_window c.at-slot.result.0 c.at-slot.result.1 c.at-slot.result.2) p)
    (taken_of c.loop-k.ground (of_slot c.args.requests.now c.at-slot.result.0) c.index-requests-slot.result c.in_ok-part.part c.take.new.ground (c.index-requests-slot.is ∙ get_or_default c.args.requests.now c.at-slot.result.0 c.index-requests-slot.result [] (omega (arith, c.requires, c.at-slot.ensures.slot)))
    c.in_ok-part.ensures.part c.in_ok-part.ensures.rest)
    c.loop-k.invariant

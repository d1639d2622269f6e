use Rattle.std.specs.Prelude.{All}
use Rattle.std.proofs.Common.{false, length, [], ◌∷◌, ◌++◌, ◌≡◌, ap, sym, subst, arith, length-append}
use Rattle.std.proofs.lemmas.List.Elements.{All-push}
use Rattle.qws_base.specs.Regions.{IsRegionOf}
use Rattle.region_alloc.proofs.sharing.no_parts.Goals as goal

pub loop-slot-preserved : goal.loop-slot-preserved
loop-slot-preserved c =
    let items : c.push.new.self.items ≡ c.loop-slot.parts.items ++ c.in_ok-none.none ∷ [] = c.in_ok-push.ensures.items in
    record {
      count = omega (arith, ap length items, length-append c.loop-slot.parts.items (c.in_ok-none.none ∷ []), c.loop-slot.invariant.count);
      none = subst (All (λ part. IsRegionOf part (λ p. false))) (sym items)
          (All-push (λ part. IsRegionOf part (λ p. false)) c.loop-slot.parts.items c.in_ok-none.none c.loop-slot.invariant.none c.in_ok-none.ensures);
    }

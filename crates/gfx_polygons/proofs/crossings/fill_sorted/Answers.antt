use Rattle.std.proofs.Common.{length, arith, refl}
use Rattle.gfx_polygons.proofs.PlaceLemmas.{filled_none, filled_more, filled_end}
use Rattle.gfx_polygons.proofs.crossings.fill_sorted.Goals as goal

pub loop-i-init : goal.loop-i-init
loop-i-init c = filled_none c.args.places.now c.args.ink.now (length c.args.out.now) c.args.out.now refl

pub lay-requires : goal.lay-requires
lay-requires c = record {
  ordered = omega (arith, c.loop-i.invariant.within, c.loop-i.invariant.next c.loop-i-test.true, c.min-place.ensures);
  within = omega (arith, c.loop-i.invariant.same_length, c.min-place.ensures);
}

pub loop-i-preserved : goal.loop-i-preserved
loop-i-preserved c =
    filled_more c.args.places.now c.args.ink.now c.ink_after.result c.loop-i.i c.loop-i.at c.min-place.result (length c.args.out.now) c.loop-i.out c.lay.new.out c.requires c.loop-i-test.true
    c.min-place.ensures c.ink_after.ensures c.loop-i.invariant c.lay.ensures

pub returns : goal.returns
returns c =
    filled_end c.args.places.now c.args.ink.now c.ink_after-2.result c.loop-i.i c.loop-i.at (length c.args.out.now) c.loop-i.out c.lay-2.new.out c.requires (omega arith)
    c.ink_after-2.ensures c.loop-i.invariant c.lay-2.ensures

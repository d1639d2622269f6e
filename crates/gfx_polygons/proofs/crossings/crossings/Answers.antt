use Rattle.std.proofs.Common.{◌≡◌, ◌-◌, pos, arith, take, get_or, length, to_z, of_z, w32}
use Rattle.std.proofs.lemmas.Int.{ints}
use Rattle.std.proofs.lemmas.List.{get_or_default}
use Rattle.qws_base.specs.declared.points.Point.{Point}
use Rattle.gfx_polygons.proofs.PlaceLemmas.{crossings_more, crossings_all, next_from}
use Rattle.gfx_polygons.proofs.crossings.crossings.Goals as goal

pub loop-i-preserved : goal.loop-i-preserved
loop-i-preserved c =
    let l = c.loop-i in
    let d : Point = record { x = pos 0; y = pos 0 } in
    let ps = c.args.points.now in
    record {
      count = omega arith;
      from = next_from _ ps l.i _ _ c.loop-i-test.true;
      are = crossings_more (get_or ps (length ps - 1) d) ps l.i l.from (get_or ps l.i d) _ _ c.args.n c.crossing.result (take l.count l.places) (take c.note-count.result c.note-count.new.places)
          c.loop-i-test.true l.invariant.from (get_or_default ps l.i d (get_or ps l.i d) c.loop-i-test.true) l.invariant.are c.crossing.ensures c.note-count.ensures.one_more;
    }

pub returns-clause-are : goal.returns-clause-are
returns-clause-are c =
    let y : to_z w32 (of_z w32 c.args.y) ≡ c.args.y = omega (arith, ints) in
    let x : to_z w32 (of_z w32 c.args.x) ≡ c.args.x = omega (arith, ints) in
    let are = rw (y, x) at c.loop-i.invariant.are in
    crossings_all c.args.points.now c.loop-i.i (record { x = pos 0; y = pos 0 }) c.args.y c.args.x c.args.n (take c.loop-i.count c.loop-i.places) c.requires.some (omega arith) are

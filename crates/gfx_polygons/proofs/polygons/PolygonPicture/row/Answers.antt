use Rattle.std.proofs.Common.{◌≡◌, length, take, to_z, of_z, w32, arith, subst}
use Rattle.std.proofs.lemmas.Int.{ints}
use Rattle.qws_base.specs.Sheets.{row_of}
use Rattle.gfx_polygons.specs.Polygons.{PolygonView, polygon_sheet}
use Rattle.gfx_polygons.proofs.PlaceLemmas.{row_of_crossings}
use Rattle.gfx_polygons.proofs.polygons.PolygonPicture.row.Goals as goal

pub returns : goal.returns
returns c =
    let y : to_z w32 (of_z w32 c.args.y) ≡ c.args.y = omega (arith, ints) in
    let x : to_z w32 (of_z w32 c.args.x) ≡ c.args.x = omega (arith, ints) in
    let l = c.self.inside in
    let are = rw (y, x, c.as_slice.ensures) at c.crossings-count.ensures.are in
    subst (λ (v : PolygonView). c.fill_between.new.out ≡ row_of (polygon_sheet v) c.args.y c.args.x (length c.args.out.now)) c.self.view_is
    (row_of_crossings (record { points = l.points; ink = l.ink }) c.args.y c.args.x (length c.args.out.now) (take c.crossings-count.result c.crossings-count.new.places) c.fill_between.new.out are c.fill_between.ensures)

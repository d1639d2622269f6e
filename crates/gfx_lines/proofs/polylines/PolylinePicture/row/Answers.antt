use Rattle.std.proofs.Common.{◌≡◌, length, to_z, of_z, w32, arith, subst}
use Rattle.std.proofs.lemmas.Int.{ints}
use Rattle.qws_base.specs.declared.inks.Ink.TheVariants.{Copy}
use Rattle.qws_base.specs.Sheets.{row_of}
use Rattle.picture_rows.specs.Boxes.{closed_reach}
use Rattle.picture_rows.proofs.RowLemmas.{row_of_test}
use Rattle.gfx_lines.specs.Strokes.{polyline_sheet, on_polyline}
use Rattle.gfx_lines.proofs.ReachLemmas.{polyline_within}
use Rattle.gfx_lines.proofs.polylines.PolylinePicture.row.Goals as goal

pub returns : goal.returns
returns c =
    let y : to_z w32 (of_z w32 c.args.y) ≡ c.args.y = omega (arith, ints) in
    let x : to_z w32 (of_z w32 c.args.x) ≡ c.args.x = omega (arith, ints) in
    let l = c.self.inside in
    let filled = rw (y, x, c.as_slice.ensures) at c.fill_lines.ensures in
    subst (λ v. c.fill_lines.new.out ≡ row_of (polyline_sheet v) c.args.y c.args.x (length c.args.out.now)) c.self.view_is
    (row_of_test (closed_reach l.points) (on_polyline l.points) (Copy l.colour) c.args.y c.args.x (length c.args.out.now) c.fill_lines.new.out (polyline_within l.points) filled)

use Rattle.std.proofs.Common.{◌≡◌, ◌%◌, nat_abs, ◌-ℤ◌, pos, ◌+ℤ◌, length, ap, ◌∙◌, to_z, of_z, w32, arith}
use Rattle.std.proofs.lemmas.Int.{ints}
use Rattle.gfx_fills.specs.Images.{tile_sheet, pixel_ink, pixel_of}
use Rattle.qws_base.specs.Sheets.{row_of}
use Rattle.qws_base.specs.declared.points.Point.{Point}
use Rattle.picture_rows.proofs.RunLemmas.{part_inside}
use Rattle.picture_rows.proofs.RowLemmas.{row_of_part, length_part}
use Rattle.gfx_fills.proofs.tiles.TilePicture.row.Goals as goal

pub tile_inside-requires : goal.tile_inside-requires
tile_inside-requires c =
    let x : to_z w32 (of_z w32 c.args.x) ≡ c.args.x = omega (arith, ints) in
    let y : to_z w32 (of_z w32 c.args.y) ≡ c.args.y = omega (arith, ints) in
    let from : to_z w32 (of_z w32 (to_z w32 (of_z w32 c.args.x) +ℤ to_z w32 c.part-from.result.0)) ≡ c.args.x +ℤ pos c.part-from.result.0 = omega (arith, ints, c.part-from.ensures.ordered, c.part-from.ensures.within) in
    let is_part = rw (x, y) at c.part-from.ensures in
    let len = length_part c.part-from.result.0 c.part-from.result.1 c.skip_around.new.out c.part-from.ensures.ordered (omega (arith, c.part-from.ensures.within, c.skip_around.ensures.same_length)) in
    rw (from, y, len) (part_inside c.self.inside.rect c.args.y c.args.x (length c.args.out.now) c.part-from.result.0 c.part-from.result.1 is_part)

pub returns : goal.returns
returns c =
    let x : to_z w32 (of_z w32 c.args.x) ≡ c.args.x = omega (arith, ints) in
    let y : to_z w32 (of_z w32 c.args.y) ≡ c.args.y = omega (arith, ints) in
    let from : to_z w32 (of_z w32 (to_z w32 (of_z w32 c.args.x) +ℤ to_z w32 c.part-from.result.0)) ≡ c.args.x +ℤ pos c.part-from.result.0 = omega (arith, ints, c.part-from.ensures.ordered, c.part-from.ensures.within) in
    row_of_part c.self.inside.rect (λ (p : Point). pixel_ink (pixel_of c.self.inside.image.now (nat_abs (p.x -ℤ c.self.inside.rect.x) % c.self.inside.image.now.w) (nat_abs (p.y -ℤ c.self.inside.rect.y) % c.self.inside.image.now.h))) c.args.y c.args.x (length c.args.out.now) c.part-from.result.0 c.part-from.result.1 c.args.out.now c.skip_around.new.out c.tile_inside.new.out
    (rw (x, y) at c.part-from.ensures) c.skip_around.ensures (rw (from, y) at c.tile_inside.ensures)
    ∙ ap (λ v. row_of (tile_sheet v.rect v.image) c.args.y c.args.x (length c.args.out.now)) c.self.view_is

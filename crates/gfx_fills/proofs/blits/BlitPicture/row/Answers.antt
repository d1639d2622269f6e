use Rattle.std.proofs.Common.{◌≡◌, nat_abs, ◌-ℤ◌, pos, ◌+ℤ◌, length, ap, ◌∙◌, to_z, of_z, w32, arith}
use Rattle.std.proofs.lemmas.Int.{ints}
use Rattle.gfx_fills.specs.Images.{blit_rect, blit_sheet, faded_ink, pixel_of}
use Rattle.qws_base.specs.Sheets.{row_of}
use Rattle.qws_base.specs.declared.points.Point.{Point}
use Rattle.picture_rows.proofs.RunLemmas.{part_inside}
use Rattle.picture_rows.proofs.RowLemmas.{row_of_part, length_part}
use Rattle.gfx_fills.proofs.blits.BlitPicture.row.Goals as goal

pub blit_inside-requires : goal.blit_inside-requires
blit_inside-requires c =
    let x : to_z w32 (of_z w32 c.args.x) ≡ c.args.x = omega (arith, ints) in
    let y : to_z w32 (of_z w32 c.args.y) ≡ c.args.y = omega (arith, ints) in
    let from : to_z w32 (of_z w32 (to_z w32 (of_z w32 c.args.x) +ℤ to_z w32 c.part-from.result.0)) ≡ c.args.x +ℤ pos c.part-from.result.0 = omega (arith, ints, c.part-from.ensures.ordered, c.part-from.ensures.within) in
    let is_part = rw (x, y, c.image_rect.ensures) at c.part-from.ensures in
    let len = length_part c.part-from.result.0 c.part-from.result.1 c.skip_around.new.out c.part-from.ensures.ordered (omega (arith, c.part-from.ensures.within, c.skip_around.ensures.same_length)) in
    rw (from, y, len) (part_inside (blit_rect c.self.inside.at c.self.inside.image.now) c.args.y c.args.x (length c.args.out.now) c.part-from.result.0 c.part-from.result.1 is_part)

pub returns : goal.returns
returns c =
    let x : to_z w32 (of_z w32 c.args.x) ≡ c.args.x = omega (arith, ints) in
    let y : to_z w32 (of_z w32 c.args.y) ≡ c.args.y = omega (arith, ints) in
    let from : to_z w32 (of_z w32 (to_z w32 (of_z w32 c.args.x) +ℤ to_z w32 c.part-from.result.0)) ≡ c.args.x +ℤ pos c.part-from.result.0 = omega (arith, ints, c.part-from.ensures.ordered, c.part-from.ensures.within) in
    row_of_part (blit_rect c.self.inside.at c.self.inside.image.now) (λ (p : Point). faded_ink c.self.inside.alpha (pixel_of c.self.inside.image.now (nat_abs (p.x -ℤ c.self.inside.at.x)) (nat_abs (p.y -ℤ c.self.inside.at.y)))) c.args.y c.args.x (length c.args.out.now) c.part-from.result.0 c.part-from.result.1 c.args.out.now c.skip_around.new.out c.blit_inside.new.out
    (rw (x, y, c.image_rect.ensures) at c.part-from.ensures) c.skip_around.ensures (rw (from, y) at c.blit_inside.ensures)
    ∙ ap (λ v. row_of (blit_sheet v.at v.image v.alpha) c.args.y c.args.x (length c.args.out.now)) c.self.view_is

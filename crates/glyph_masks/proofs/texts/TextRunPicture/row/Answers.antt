use Rattle.std.proofs.Common.{◌≡◌, pos, ◌+ℤ◌, length, arith, to_z, of_z, w32}
use Rattle.std.proofs.lemmas.Int.{ints}
use Rattle.qws_base.specs.declared.points.Point.{Point}
use Rattle.picture_rows.proofs.RunLemmas.{part_inside}
use Rattle.picture_rows.proofs.RowLemmas.{row_of_part, length_part}
use Rattle.glyph_masks.specs.Texts.{text_rect, any_set, cells}
use Rattle.glyph_masks.specs.Columns.{bit_ink}
use Rattle.glyph_masks.proofs.texts.TextRunPicture.row.Goals as goal

pub text_inside-requires : goal.text_inside-requires
text_inside-requires c =
    let x : to_z w32 (of_z w32 c.args.x) ≡ c.args.x = omega (arith, ints) in
    let y : to_z w32 (of_z w32 c.args.y) ≡ c.args.y = omega (arith, ints) in
    let from : to_z w32 (of_z w32 (to_z w32 (of_z w32 c.args.x) +ℤ to_z w32 c.part-from.result.0)) ≡ c.args.x +ℤ pos c.part-from.result.0 = omega (arith, ints, c.part-from.ensures.ordered, c.part-from.ensures.within) in
    let is_part = rw (x, y, c.rect.ensures) at c.part-from.ensures in
    let len = length_part c.part-from.result.0 c.part-from.result.1 c.skip_around.new.out c.part-from.ensures.ordered (omega (arith, c.part-from.ensures.within, c.skip_around.ensures.same_length)) in
    rw (from, y, len) (part_inside (text_rect c.args.self.now) c.args.y c.args.x (length c.args.out.now) c.part-from.result.0 c.part-from.result.1 is_part)

pub returns : goal.returns
returns c =
    let x : to_z w32 (of_z w32 c.args.x) ≡ c.args.x = omega (arith, ints) in
    let y : to_z w32 (of_z w32 c.args.y) ≡ c.args.y = omega (arith, ints) in
    let from : to_z w32 (of_z w32 (to_z w32 (of_z w32 c.args.x) +ℤ to_z w32 c.part-from.result.0)) ≡ c.args.x +ℤ pos c.part-from.result.0 = omega (arith, ints, c.part-from.ensures.ordered, c.part-from.ensures.within) in
    row_of_part (text_rect c.args.self.now) (λ (p : Point). bit_ink c.args.self.now.ink (any_set (cells c.args.self.now) p)) c.args.y c.args.x (length c.args.out.now) c.part-from.result.0 c.part-from.result.1
    c.args.out.now c.skip_around.new.out c.text_inside.new.out (rw (x, y, c.rect.ensures) at c.part-from.ensures) c.skip_around.ensures (rw (from, y) at c.text_inside.ensures)

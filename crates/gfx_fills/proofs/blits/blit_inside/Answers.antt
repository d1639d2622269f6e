use Rattle.std.proofs.Common.{◌≡◌, ◌<◌, ◌∙◌, length, ap, to_z, of_z, w32, arith}
use Rattle.std.proofs.lemmas.Int.{ints}
use Rattle.gfx_fills.specs.Images.{blit_rect}
use Rattle.picture_rows.proofs.RunLemmas.{inside_column, inside_end}
use Rattle.gfx_fills.proofs.TileLemmas.{row_length, blit_made}
use Rattle.gfx_fills.proofs.blits.blit_inside.Goals as goal

pub places_after-column-requires : goal.places_after-column-requires
places_after-column-requires c =
    let x : to_z w32 (of_z w32 c.args.x) ≡ c.args.x = omega (arith, ints) in
    let left : to_z w32 (of_z w32 c.args.at.x) ≡ c.args.at.x = omega (arith, ints) in
    let some : 0 < length c.args.out.now = grind (arith, c.is_empty.ensures, c.if-is_empty.false) in
    rw (x, left, c.w.ensures.value) (inside_column (blit_rect c.args.at c.args.image.now) c.args.y c.args.x (length c.args.out.now) c.requires some)

pub faded_inks-requires : goal.faded_inks-requires
faded_inks-requires c =
    let x : to_z w32 (of_z w32 c.args.x) ≡ c.args.x = omega (arith, ints) in
    let left : to_z w32 (of_z w32 c.args.at.x) ≡ c.args.at.x = omega (arith, ints) in
    let some : 0 < length c.args.out.now = grind (arith, c.is_empty.ensures, c.if-is_empty.false) in
    let is_column = rw (x, left) at c.places_after-column.ensures.value in
    let low : c.places_after-row.result < c.args.image.now.h = omega (arith, c.places_after-row.ensures.within, c.h.ensures.value) in
    let len : length c.row.result.now ≡ c.args.image.now.w = ap length c.row.ensures.value ∙ row_length c.args.image.now c.places_after-row.result c.row.ensures.is_image low in
    omega (arith, is_column, len, inside_end (blit_rect c.args.at c.args.image.now) c.args.y c.args.x (length c.args.out.now) c.requires some)

pub returns : goal.returns
returns c =
    let x : to_z w32 (of_z w32 c.args.x) ≡ c.args.x = omega (arith, ints) in
    let y : to_z w32 (of_z w32 c.args.y) ≡ c.args.y = omega (arith, ints) in
    let left : to_z w32 (of_z w32 c.args.at.x) ≡ c.args.at.x = omega (arith, ints) in
    let top : to_z w32 (of_z w32 c.args.at.y) ≡ c.args.at.y = omega (arith, ints) in
    let some : 0 < length c.args.out.now = grind (arith, c.is_empty.ensures, c.if-is_empty.false) in
    c.faded_inks.ensures
    ∙ blit_made c.args.at c.args.image.now c.args.alpha c.args.y c.args.x (length c.args.out.now) c.row.result.now c.places_after-column.result c.places_after-row.result c.requires some
    (rw (y, top) at c.places_after-row.ensures.value) c.row.ensures.value (rw (x, left) at c.places_after-column.ensures.value)

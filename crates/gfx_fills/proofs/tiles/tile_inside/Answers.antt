use Rattle.std.proofs.Common.{◌≡◌, ◌<◌, ◌%◌, ◌∙◌, ◌-ℤ◌, nat_abs, length, ap, to_z, of_z, w32, arith}
use Rattle.std.proofs.lemmas.Int.{ints}
use Rattle.picture_rows.proofs.RunLemmas.{inside_column}
use Rattle.gfx_fills.proofs.TileLemmas.{tile_made}
use Rattle.gfx_fills.proofs.tiles.tile_inside.Goals as goal

pub places_after-column-requires : goal.places_after-column-requires
places_after-column-requires c =
    let x : to_z w32 (of_z w32 c.args.x) ≡ c.args.x = omega (arith, ints) in
    let left : to_z w32 (of_z w32 c.args.rect.x) ≡ c.args.rect.x = omega (arith, ints) in
    let some : 0 < length c.args.out.now = grind (arith, c.is_empty.ensures, c.if-is_empty.false) in
    rw (x, left) (inside_column c.args.rect c.args.y c.args.x (length c.args.out.now) c.requires some)

pub returns : goal.returns
returns c =
    let x : to_z w32 (of_z w32 c.args.x) ≡ c.args.x = omega (arith, ints) in
    let y : to_z w32 (of_z w32 c.args.y) ≡ c.args.y = omega (arith, ints) in
    let left : to_z w32 (of_z w32 c.args.rect.x) ≡ c.args.rect.x = omega (arith, ints) in
    let top : to_z w32 (of_z w32 c.args.rect.y) ≡ c.args.rect.y = omega (arith, ints) in
    let some : 0 < length c.args.out.now = grind (arith, c.is_empty.ensures, c.if-is_empty.false) in
    let is_row = rw (y, top) at c.places_after-row.ensures.value in
    let is_column = rw (x, left) at c.places_after-column.ensures.value in
    c.repeated_inks.ensures
    ∙ tile_made c.args.rect c.args.image.now c.args.y c.args.x (length c.args.out.now) c.row-pixels.result.now (c.places_after-column.result % length c.row-pixels.result.now)
    (c.places_after-row.result % c.h.result) c.row-pixels.ensures.is_image c.requires some
    (ap (λ v. v % c.h.result) is_row ∙ ap (λ m. nat_abs (c.args.y -ℤ c.args.rect.y) % m) c.h.ensures.value)
    c.row-pixels.ensures.value
    (ap (λ v. v % length c.row-pixels.result.now) is_column)

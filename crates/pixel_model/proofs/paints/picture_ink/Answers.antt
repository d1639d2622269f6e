use Rattle.std.proofs.Common.{arith, refl, ap, ◌≡◌, ◌∙◌, slice_index_or, ◌-ℤ◌, to_z, of_z, w32}
use Rattle.std.proofs.lemmas.Int.{ints}
use Rattle.std.proofs.Math.IntN.{+ℤ_idr}
use Rattle.pixel_model.proofs.paints.picture_ink.Goals as goal

pub returns : goal.returns
returns g c =
    let x : to_z w32 (of_z w32 (to_z w32 (of_z w32 c.args.p.x) -ℤ to_z w32 (of_z w32 c.args.origin.x))) ≡ c.args.p.x -ℤ c.args.origin.x = omega (arith, ints) in
    let y : to_z w32 (of_z w32 (to_z w32 (of_z w32 c.args.p.y) -ℤ to_z w32 (of_z w32 c.args.origin.y))) ≡ c.args.p.y -ℤ c.args.origin.y = omega (arith, ints) in
    ap (λ l. slice_index_or l 0 c.index-one-0.result) c.row.ensures ∙ rw (x, y, +ℤ_idr) refl

use Rattle.band_regions.proofs.Lemmas.{◌≡◌, arith, to_z, of_z, w32, ◌+ℤ◌, ints}
use Rattle.band_regions.proofs.regions.moved.Goals as goal

pub returns : goal.returns
returns c = let x : to_z w32 (of_z w32 (to_z w32 (of_z w32 c.args.dx) +ℤ to_z w32 (of_z w32 c.args.rect.now.x))) ≡ (c.args.dx +ℤ c.args.rect.now.x) = omega (arith, ints) in
    let y : to_z w32 (of_z w32 (to_z w32 (of_z w32 c.args.dy) +ℤ to_z w32 (of_z w32 c.args.rect.now.y))) ≡ (c.args.dy +ℤ c.args.rect.now.y) = omega (arith, ints) in rw (x, y)

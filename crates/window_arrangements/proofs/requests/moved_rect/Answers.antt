use Rattle.std.proofs.Common.{◌≡◌, to_z, of_z, w32, arith}
use Rattle.std.specs.Prelude.{◌+ℤ◌}
use Rattle.std.proofs.lemmas.Int.{ints}
use Rattle.window_arrangements.proofs.requests.moved_rect.Goals as goal

pub returns : goal.returns
returns c =
    let x : to_z w32 (of_z w32 (to_z w32 (of_z w32 c.args.origin.x) +ℤ to_z w32 (of_z w32 c.args.rect.now.x))) ≡ (c.args.origin.x +ℤ c.args.rect.now.x) = omega (arith, ints) in
    let y : to_z w32 (of_z w32 (to_z w32 (of_z w32 c.args.origin.y) +ℤ to_z w32 (of_z w32 c.args.rect.now.y))) ≡ (c.args.origin.y +ℤ c.args.rect.now.y) = omega (arith, ints) in
    rw (x, y)

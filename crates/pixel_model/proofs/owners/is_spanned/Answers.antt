use Rattle.std.proofs.Common.{arith, ◌≡◌, ◌+ℤ◌, to_z, of_z, w32, w64, pos}
use Rattle.std.proofs.lemmas.Int.{ints}
use Rattle.pixel_model.proofs.owners.is_spanned.Goals as goal

pub returns-then-low-at : goal.returns-then-low-at
returns-then-low-at c =
    let at : to_z w64 (of_z w64 (to_z w32 (of_z w32 c.args.at))) ≡ c.args.at = omega (arith, ints) in
    let o : to_z w64 (of_z w64 (to_z w32 (of_z w32 c.args.origin))) ≡ c.args.origin = omega (arith, ints) in
    let s : to_z w64 (of_z w64 (to_z w32 (of_z w32 c.args.start))) ≡ c.args.start = omega (arith, ints) in
    let low : to_z w64 (of_z w64 (c.args.origin +ℤ c.args.start)) ≡ c.args.origin +ℤ c.args.start = omega (arith, ints) in
    let high : to_z w64 (of_z w64 ((c.args.origin +ℤ c.args.start) +ℤ to_z w64 c.args.len)) ≡ (c.args.origin +ℤ c.args.start) +ℤ pos c.args.len = omega (arith, ints) in
    rw (at, o, s, low, high) (grind (arith, ints))

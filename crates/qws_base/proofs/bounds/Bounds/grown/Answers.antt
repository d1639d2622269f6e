use Rattle.std.proofs.Common.{◌≡◌, to_z, of_z, w32, arith, ◌∙◌, refl}
use Rattle.std.proofs.lemmas.Int.{ints, clamps}
use Rattle.qws_base.proofs.bounds.Bounds.grown.Goals as goal

pub returns-clause-value : goal.returns-clause-value
returns-clause-value c =
    let b = c.args.self in
    let p = c.args.p in
    let left : to_z w32 (of_z w32 b.left) ≡ b.left = omega (arith, ints) in
    let top : to_z w32 (of_z w32 b.top) ≡ b.top = omega (arith, ints) in
    let right : to_z w32 (of_z w32 b.right) ≡ b.right = omega (arith, ints) in
    let bottom : to_z w32 (of_z w32 b.bottom) ≡ b.bottom = omega (arith, ints) in
    let x : to_z w32 (of_z w32 p.x) ≡ p.x = omega (arith, ints) in
    let y : to_z w32 (of_z w32 p.y) ≡ p.y = omega (arith, ints) in
    let low_x = rw (left, x) at c.min.ensures.value in
    let low_y = rw (top, y) at c.min-2.ensures.value in
    let high_x = rw (right, x) at c.max.ensures.value in
    let high_y = rw (bottom, y) at c.max-2.ensures.value in
    let l : to_z w32 (of_z w32 c.min.result) ≡ c.min.result = omega (arith, ints, clamps, low_x) in
    let t : to_z w32 (of_z w32 c.min-2.result) ≡ c.min-2.result = omega (arith, ints, clamps, low_y) in
    let r : to_z w32 (of_z w32 c.max.result) ≡ c.max.result = omega (arith, ints, clamps, high_x) in
    let d : to_z w32 (of_z w32 c.max-2.result) ≡ c.max-2.result = omega (arith, ints, clamps, high_y) in
    rw (l ∙ low_x, t ∙ low_y, r ∙ high_x, d ∙ high_y) refl

pub returns-clause-are : goal.returns-clause-are
returns-clause-are c = record {
  low_x = omega (arith, ints, clamps);
  columns = omega (arith, ints, clamps);
  high_x = omega (arith, ints, clamps);
  low_y = omega (arith, ints, clamps);
  rows = omega (arith, ints, clamps);
  high_y = omega (arith, ints, clamps);
}

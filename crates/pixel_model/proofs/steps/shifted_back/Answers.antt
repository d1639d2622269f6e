use Rattle.std.proofs.Common.{arith, ◌≡◌, ◌-ℤ◌, to_z, of_z, w32, ap, ◌∙◌}
use Rattle.std.proofs.lemmas.Int.{ints}
use Rattle.qws_base.specs.Points.{minus, pixel_at, point_of}
use Rattle.qws_base.specs.declared.points.Point.{Point}
use Rattle.pixel_model.proofs.steps.shifted_back.Goals as goal

pub returns-clause-value : goal.returns-clause-value
returns-clause-value c =
    let x : to_z w32 (of_z w32 (to_z w32 (of_z w32 c.pixel_point-at.result.x) -ℤ to_z w32 (of_z w32 c.args.shift.x))) ≡ c.pixel_point-at.result.x -ℤ c.args.shift.x = omega (arith, ints) in
    let y : to_z w32 (of_z w32 (to_z w32 (of_z w32 c.pixel_point-at.result.y) -ℤ to_z w32 (of_z w32 c.args.shift.y))) ≡ c.pixel_point-at.result.y -ℤ c.args.shift.y = omega (arith, ints) in
    let at : c.pixel_point-at.result ≡ point_of c.args.size.w c.args.p = c.pixel_point-at.ensures.value ∙ ap (λ w. point_of w c.args.p) c.w.ensures.value in
    c.point_pixel.ensures.value ∙ rw (x, y) (ap (λ (at : Point). pixel_at c.args.size (minus at c.args.shift)) at)

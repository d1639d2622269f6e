use Rattle.std.proofs.Common.{arith, ◌≡◌, ◌-ℤ◌, to_z, of_z, w32, ap, ◌∙◌}
use Rattle.std.proofs.lemmas.Int.{ints}
use Rattle.qws_base.specs.Points.{minus}
use Rattle.qws_base.specs.declared.points.Point.{Point}
use Rattle.pixel_model.proofs.steps.shift_of.Goals as goal

pub returns-clause-value : goal.returns-clause-value
returns-clause-value c =
    let x : to_z w32 (of_z w32 (to_z w32 (of_z w32 c.slot_origin-to.result.x) -ℤ to_z w32 (of_z w32 c.slot_origin-from.result.x))) ≡ c.slot_origin-to.result.x -ℤ c.slot_origin-from.result.x = omega (arith, ints) in
    let y : to_z w32 (of_z w32 (to_z w32 (of_z w32 c.slot_origin-to.result.y) -ℤ to_z w32 (of_z w32 c.slot_origin-from.result.y))) ≡ c.slot_origin-to.result.y -ℤ c.slot_origin-from.result.y = omega (arith, ints) in
    rw (x, y) (ap (λ (to : Point). minus to c.slot_origin-from.result) c.slot_origin-to.ensures.value ∙ ap (minus _) c.slot_origin-from.ensures.value)

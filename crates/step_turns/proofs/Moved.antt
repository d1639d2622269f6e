-- A place that is moved.
use Rattle.std.proofs.Common.{◌≡◌, ℕ, ap, ◌∙◌, arith, ℤ, pos, ◌+ℤ◌, ◌≤ℤ◌, to_z, of_z, w32}
use Rattle.std.specs.Prelude.{negsuc}
use Rattle.std.proofs.lemmas.Int.{ints}
use Rattle.qws_base.specs.Points.{shifted}
use Rattle.qws_base.specs.declared.points.Point.{Point}
use Rattle.qws_base.specs.declared.points.Rect.{Rect}
use Rattle.step_regions.specs.Carried.{IsNear}
use Rattle.step_turns.specs.Covers.{IsNearby}

fits_wide : (x : ℤ) → negsuc 16383 ≤ℤ x → x ≤ℤ pos 16384 → to_z w32 (of_z w32 x) ≡ x
fits_wide x low high = omega (arith, ints)

sum_is : (x y : ℤ) → IsNear x → pos 0 ≤ℤ y → y ≤ℤ pos 639 → to_z w32 (of_z w32 (to_z w32 (of_z w32 x) +ℤ to_z w32 (of_z w32 y))) ≡ x +ℤ y
sum_is x y near low_y high_y =
    let low_x = near.low in let high_x = near.high in
    let a : to_z w32 (of_z w32 x) ≡ x = fits_wide x (omega (arith, ints)) (omega (arith, ints)) in
    let b : to_z w32 (of_z w32 y) ≡ y = fits_wide y (omega (arith, ints)) (omega (arith, ints)) in
    ap (λ z. to_z w32 (of_z w32 z)) (ap (λ z. z +ℤ to_z w32 (of_z w32 y)) a ∙ ap (λ z. x +ℤ z) b) ∙ fits_wide (x +ℤ y) (omega (arith, ints)) (omega (arith, ints))

same_rect : (x y u v : ℤ) (w h : ℕ) → x ≡ u → y ≡ v → (let a : Rect = record { x = x; y = y; w = w; h = h } in a) ≡ (let b : Rect = record { x = u; y = v; w = w; h = h } in b)
same_rect x y u v w h e f = ap (λ (t : ℤ). let a : Rect = record { x = t; y = y; w = w; h = h } in a) e ∙ ap (λ (t : ℤ). let a : Rect = record { x = u; y = t; w = w; h = h } in a) f

pub moved_sum : (by : Point) (r : Rect) → IsNear by.x × IsNear by.y → IsNearby r
    → (let m : Rect = record { x = to_z w32 (of_z w32 (to_z w32 (of_z w32 by.x) +ℤ to_z w32 (of_z w32 r.x))); y = to_z w32 (of_z w32 (to_z w32 (of_z w32 by.y) +ℤ to_z w32 (of_z w32 r.y))); w = r.w; h = r.h } in m) ≡ shifted by r
moved_sum by r near place = same_rect _ _ (by.x +ℤ r.x) (by.y +ℤ r.y) r.w r.h (sum_is by.x r.x near.0 place.low_x place.high_x)
    (sum_is by.y r.y near.1 place.low_y (let high = place.high_y in omega (arith, ints)))

use Rattle.std.proofs.Common.{◌≡◌, ℕ, ◌+◌, ◌-◌, ◌*◌, ◌<◌, ◌≤◌, sym, refl, ap, ◌∙◌, arith, nat_abs, to_z, of_z, w32}
use Rattle.std.proofs.lemmas.Int.{ints}
use Rattle.std.proofs.lemmas.Nat.{mul-add-lt, mul-le}
use Rattle.qws_base.specs.Sides.{Sides}
use Rattle.qws_base.specs.declared.points.Rect.{Rect}
use Rattle.scene_turns.proofs.Sweeping.{IsIn, end_in, holds_in, row_true}
use Rattle.scene_turns.proofs.regions.work_rect_row.Goals as goal

-- where a row of a rectangle ends
first_in : (size : Sides) (r : Rect) (y first width left : ℕ) → y < size.h → nat_abs r.x + r.w ≤ size.w → width ≡ size.w → left ≡ nat_abs r.x → first ≡ y * width + left → size.w ≤ 640 → size.h ≤ 480 → 1 ≤ size.w → first + r.w ≤ 307200
first_in size r y first width left row across w x is most_w most_h some =
    let e : first ≡ y * size.w + nat_abs r.x = is ∙ ap (λ n. y * n + left) w ∙ ap (λ n. y * size.w + n) x in
    let rows = mul-add-lt y size.w (size.w - 1) size.h row (omega arith) in
    let most = mul-le size.w size.h 640 480 most_w most_h in
    omega arith

pub work_stretch-requires-clause-can : goal.work_stretch-requires-clause-can
work_stretch-requires-clause-can c = λ p low high.
    let r = c.args.rect in
    let row = row_true c.args.y r (sym c.has_row.ensures ∙ c.if-has_row.true) in
    let x : to_z w32 (of_z w32 r.x) ≡ r.x = omega (arith, ints) in
    let first : c.args.y * c.w-width.result + c.coordinate.result ≡ c.args.y * c.args.size.w + nat_abs r.x = ap (λ n. c.args.y * n + c.coordinate.result) c.w-width.ensures.value ∙ ap (λ n. c.args.y * c.args.size.w + n) (c.coordinate.ensures ∙ ap nat_abs x) in
    let is : IsIn c.args.size.w r c.args.y p = record { top = row.0; bottom = row.1; low = omega arith; high = omega arith } in
    let there = holds_in c.args.size r c.args.y p c.requires.within is in
    c.requires.can p there.0 there.1

pub work_stretch-requires-clause-few : goal.work_stretch-requires-clause-few
work_stretch-requires-clause-few c =
    let s = c.w-width.ensures.is_screen in
    let on = c.requires.within in
    let x : to_z w32 (of_z w32 c.args.rect.x) ≡ c.args.rect.x = omega (arith, ints) in
    first_in c.args.size c.args.rect c.args.y _ c.w-width.result c.coordinate.result c.requires.row (end_in c.args.rect.x c.args.rect.w c.args.size.w on.from_left on.to_right) c.w-width.ensures.value (c.coordinate.ensures ∙ ap nat_abs x) refl s.most_w s.most_h s.some_w

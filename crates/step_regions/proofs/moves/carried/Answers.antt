use Rattle.std.proofs.Common.{◌≡◌, ℕ, ◌+◌, ◌*◌, Bool, true, false, ◌&&◌, List, sym, ap, ◌∙◌, subst, arith, pos, ◌-ℤ◌, if◌then◌else◌, Some, None, to_z, of_z, w32}
use Rattle.std.proofs.lemmas.Int.{ints}
use Rattle.std.proofs.lemmas.Bool.{ltb-true, ltb-false, and_parts}
use Rattle.std.proofs.lemmas.Nat.{mul-le}
use Rattle.qws_base.specs.Sides.{Sides, IsScreen}
use Rattle.qws_base.specs.Points.{any_holds, is_on_screen, minus, point_of}
use Rattle.qws_base.specs.Windows.{allocated_points, is_slot, owner_at}
use Rattle.qws_base.specs.declared.points.Point.{Point}
use Rattle.qws_base.specs.declared.windows.WindowView.{WindowView}
use Rattle.step_regions.proofs.Lost.{all_within}
use Rattle.step_regions.specs.Carried.{source}
use Rattle.step_regions.specs.Carried.{IsNear}
use Rattle.step_regions.proofs.Distances.{all_shiftable, combine, two, carries, has_source}
use Rattle.step_regions.proofs.moves.carried.Goals as goal

pub overflow_mul-forth : goal.overflow_mul-forth
overflow_mul-forth c = let s = c.w-width.ensures.is_screen.most_w in let v = c.w-width.ensures.value in let few = c.places_forth-down.ensures.few in let most = mul-le c.places_forth-down.result c.w-width.result 8192 640 few (omega arith) in omega arith

pub overflow_mul-back : goal.overflow_mul-back
overflow_mul-back c = let s = c.w-width.ensures.is_screen.most_w in let v = c.w-width.ensures.value in let few = c.places_back-up.ensures.few in let most = mul-le c.places_back-up.result c.w-width.result 8192 640 few (omega arith) in omega arith

pub overflow_add-forth : goal.overflow_add-forth
overflow_add-forth c = let s = c.w-width.ensures.is_screen.most_w in let v = c.w-width.ensures.value in let few = c.places_forth-down.ensures.few in let right = c.places_forth-right.ensures.few in let most = mul-le c.places_forth-down.result c.w-width.result 8192 640 few (omega arith) in omega arith

pub overflow_add-back : goal.overflow_add-back
overflow_add-back c = let s = c.w-width.ensures.is_screen.most_w in let v = c.w-width.ensures.value in let few = c.places_back-up.ensures.few in let left = c.places_back-left.ensures.few in let most = mul-le c.places_back-up.result c.w-width.result 8192 640 few (omega arith) in omega arith

pub shift-requires : goal.shift-requires
shift-requires c =
    let size : Sides = c.args.core.now.size in
    let screen : IsScreen size = subst IsScreen c.size.ensures c.w-width.ensures.is_screen in
    let x : to_z w32 (of_z w32 c.args.dx) ≡ c.args.dx = (let low = c.requires.columns.low in let high = c.requires.columns.high in omega (arith, ints)) in
    let y : to_z w32 (of_z w32 c.args.dy) ≡ c.args.dy = (let low = c.requires.rows.low in let high = c.requires.rows.high in omega (arith, ints)) in
    all_shiftable size c.region.result.now (to_z w32 (of_z w32 c.args.dx)) (to_z w32 (of_z w32 c.args.dy)) screen
    (all_within size c.region.result.now c.region.ensures.canonical.some_pixels
    (λ p h. (and_parts (is_on_screen size p) (is_slot c.args.slot (owner_at c.args.core.now.state.windows p)) (sym (c.region.ensures.points p) ∙ h)).0))
    (subst IsNear (sym x) c.requires.columns) (subst IsNear (sym y) c.requires.rows)

pub returns : goal.returns
returns c =
    let size : Sides = c.args.core.now.size in
    let before : List WindowView = c.args.core.now.state.windows in
    let after : List WindowView = c.args.plan.now.windows in
    let slot : ℕ = c.args.slot in
    let d : Point = record { x = c.args.dx; y = c.args.dy } in
    let screen : IsScreen size = subst IsScreen c.size.ensures c.w-width.ensures.is_screen in
    let wide : c.w-width.result ≡ size.w = c.w-width.ensures.value ∙ ap (λ (s : Sides). s.w) c.size.ensures in
    let right : ℕ = c.places_forth-right.result in
    let left : ℕ = c.places_back-left.result in
    let down : ℕ = c.places_forth-down.result in
    let up : ℕ = c.places_back-up.result in
    let forth : ℕ = down * c.w-width.result + right in
    let back : ℕ = up * c.w-width.result + left in
    let falling : Bool = c.is_falling-falling.result in
    let by : ℕ = c.places_between-by.result in
    let x : to_z w32 (of_z w32 c.args.dx) ≡ c.args.dx = (let low = c.requires.columns.low in let high = c.requires.columns.high in omega (arith, ints)) in
    let y : to_z w32 (of_z w32 c.args.dy) ≡ c.args.dy = (let low = c.requires.rows.low in let high = c.requires.rows.high in omega (arith, ints)) in
    let moved_by : (let e : Point = record { x = to_z w32 (of_z w32 c.args.dx); y = to_z w32 (of_z w32 c.args.dy) } in e) ≡ d = two (to_z w32 (of_z w32 c.args.dx)) (to_z w32 (of_z w32 c.args.dy)) c.args.dx c.args.dy x y in
    let across : pos right -ℤ pos left ≡ c.args.dx = combine (to_z w32 (of_z w32 c.args.dx)) right left c.places_forth-right.ensures.forth c.places_forth-right.ensures.none c.places_back-left.ensures.back c.places_back-left.ensures.none ∙ x in
    let along : pos down -ℤ pos up ≡ c.args.dy = combine (to_z w32 (of_z w32 c.args.dy)) down up c.places_forth-down.ensures.forth c.places_forth-down.ensures.none c.places_back-up.ensures.back c.places_back-up.ensures.none ∙ y in
    let forth_is : forth ≡ down * size.w + right = ap (λ n. down * n + right) wide in
    let back_is : back ≡ up * size.w + left = ap (λ n. up * n + left) wide in
    let falls = λ (e : falling ≡ true). ltb-true back forth (sym c.is_falling-falling.ensures ∙ e) in
    let rises = λ (e : falling ≡ false). ltb-false back forth (sym c.is_falling-falling.ensures ∙ e) in
    let by_falling = λ (e : falling ≡ true). c.places_between-by.ensures.falling (falls e) in
    let by_rising = λ (e : falling ≡ false). c.places_between-by.ensures.rising (rises e) in
    let held = λ (p : Point). c.in_ok-region.ensures.points p
    ∙ ap (λ b. b && any_holds c.in_ok-moved.moved p) (c.region-2.ensures.points p)
    ∙ ap (λ (z : Sides). allocated_points z after slot p && any_holds c.in_ok-moved.moved p) c.requires.belongs.screen
    ∙ ap (λ b. allocated_points size after slot p && b) (c.in_ok-moved.ensures.points p ∙ ap (λ (z : Point). any_holds c.region.result.now (minus p z)) moved_by ∙ c.region.ensures.points (minus p d)) in
    record {
      within = all_within size c.in_ok-region.region c.in_ok-region.ensures.canonical.some_pixels
          (λ p h. (and_parts (is_on_screen size p) (is_slot slot (owner_at after p)) (and_parts (allocated_points size after slot p) (allocated_points size before slot (minus p d)) (sym (held p) ∙ h)).0).0);
      carries = λ p lt. carries size before after slot d falling right left down up forth back by screen.some_w across along forth_is back_is falls rises by_falling by_rising p lt
          ∙ sym (ap (λ b. if b then Some (source falling by p) else None) (held (point_of size.w p)));
      owned = λ p lt h. (and_parts (is_on_screen size (point_of size.w p)) (is_slot slot (owner_at after (point_of size.w p)))
          (and_parts (allocated_points size after slot (point_of size.w p)) (allocated_points size before slot (minus (point_of size.w p) d)) (sym (held (point_of size.w p)) ∙ h)).0).1;
      sources = λ setting p same lt h. has_source size before after slot d falling right left down up forth back by screen.some_w across along forth_is back_is falls rises by_falling by_rising setting p same lt
          (and_parts (allocated_points size after slot (point_of size.w p)) (allocated_points size before slot (minus (point_of size.w p) d)) (sym (held (point_of size.w p)) ∙ h)).1;
    }

use Rattle.std.proofs.Common.{◌≡◌, ℕ, ◌+◌, ◌-◌, List, ◌++◌, append-nil, sym, ap, ◌∙◌, arith, nat_abs, to_z, of_z, w32}
use Rattle.std.proofs.lemmas.Int.{ints}
use Rattle.std.proofs.lemmas.Nat.{mul-add-lt, mul-le}
use Rattle.qws_base.proofs.PixelRows.{rows_of, no_rows, all_rows, rect_place}
use Rattle.canvas_steps.proofs.Pushing.{rows_more}
use Rattle.canvas_steps.proofs.pixels.push_rect.Goals as goal

pub loop-i-init : goal.loop-i-init
loop-i-init c = sym (ap (λ (l : List ℕ). c.args.pixels.now.items ++ l) (no_rows c.args.size.w c.args.rect) ∙ append-nil c.args.pixels.now.items)

pub push_stretch-requires : goal.push_stretch-requires
push_stretch-requires c =
    let r = c.args.rect in
    let x : to_z w32 (of_z w32 r.x) ≡ r.x = omega (arith, ints) in
    let y : to_z w32 (of_z w32 r.y) ≡ r.y = omega (arith, ints) in
    let place = rect_place c.args.size r c.loop-i.i c.w-width.result (nat_abs (to_z w32 (of_z w32 r.y))) (nat_abs (to_z w32 (of_z w32 r.x))) c.requires.on_screen c.requires.some_pixels c.loop-i-test.true c.w-width.ensures.value (ap nat_abs y) (ap nat_abs x) in
    let across = place.across in
    let down = place.down in
    let some = place.some_w in
    let is = place.is in
    let most = mul-add-lt (nat_abs r.y + c.loop-i.i) c.args.size.w (nat_abs r.x + r.w - 1) c.args.size.h down (omega arith) in
    let few = mul-le c.args.size.w c.args.size.h 640 480 c.w-width.ensures.is_screen.most_w c.w-width.ensures.is_screen.most_h in
    omega arith

pub loop-i-preserved : goal.loop-i-preserved
loop-i-preserved c =
    let r = c.args.rect in
    let x : to_z w32 (of_z w32 r.x) ≡ r.x = omega (arith, ints) in
    let y : to_z w32 (of_z w32 r.y) ≡ r.y = omega (arith, ints) in
    let place = rect_place c.args.size r c.loop-i.i c.w-width.result (nat_abs (to_z w32 (of_z w32 r.y))) (nat_abs (to_z w32 (of_z w32 r.x))) c.requires.on_screen c.requires.some_pixels c.loop-i-test.true c.w-width.ensures.value (ap nat_abs y) (ap nat_abs x) in
    rows_more c.args.size.w r c.args.pixels.now.items c.loop-i.pixels.items _ c.loop-i.i _ c.loop-i.invariant c.in_ok-push_stretch.ensures place.is

pub returns : goal.returns
returns c =
    let a = c.loop-i-test.false in
    let b = c.loop-i.auto.i-end in
    let z : c.loop-i.i ≡ c.args.rect.h = omega arith in
    c.loop-i.invariant ∙ ap (λ (l : List ℕ). c.args.pixels.now.items ++ l) (ap (rows_of c.args.size.w c.args.rect) z ∙ all_rows c.args.size.w c.args.rect)

use Rattle.std.proofs.Common.{◌≡◌, ◌∙◌, ◌<◌, Some, length, ap, subst, arith}
use Rattle.qws_base.specs.Sides.{IsScreen}
use Rattle.qws_base.specs.Refusals.{rects_needed}
use Rattle.qws_base.specs.Windows.{allocated_points}
use Rattle.qws_base.specs.declared.replies.Refusal.TheVariants.{TooComplex}
use Rattle.window_arrangements.proofs.CheckLemmas.{first_complex, none_complex, few_corners, allocated_on}
use Rattle.window_arrangements.proofs.checks.too_complex.Goals as goal

pub overflow_cast-result : goal.overflow_cast-result
overflow_cast-result c =
    let size = c.args.windows.now.size in
    let set = allocated_points size c.args.windows.now.windows c.loop-slot.slot in
    let count = ap length c.rects-rects.ensures.value ∙ c.count_of_corners.ensures size c.region.result.now set (allocated_on size c.args.windows.now.windows c.loop-slot.slot) c.region.ensures in
    let few = few_corners size set (subst IsScreen c.size.ensures c.w.ensures.is_screen) in
    omega (arith, count, few)

pub returns-then-rects-gt-MOST_RECTS : goal.returns-then-rects-gt-MOST_RECTS
returns-then-rects-gt-MOST_RECTS c =
    let size = c.args.windows.now.size in
    let ws = c.args.windows.now.windows in
    let count : length c.rects-rects.result.now ≡ rects_needed size ws c.loop-slot.slot =
    ap length c.rects-rects.ensures.value ∙ c.count_of_corners.ensures size c.region.result.now (allocated_points size ws c.loop-slot.slot) (allocated_on size ws c.loop-slot.slot) c.region.ensures in
    ap (λ n. Some (TooComplex c.loop-slot.slot n)) count ∙ first_complex size ws c.loop-slot.slot c.loop-slot-test.true c.loop-slot.invariant (subst (λ n. 256 < n) count c.if-rects-gt-MOST_RECTS.true)

pub returns : goal.returns
returns c = none_complex c.args.windows.now.size c.args.windows.now.windows (λ k low. c.loop-slot.invariant k (let end = c.loop-slot-test.false in omega (arith, low, end)))

use Rattle.std.proofs.Common.{◌+◌, ◌*◌, ◌<◌, ◌∙◌, subst, arith}
use Rattle.std.proofs.lemmas.Nat.{mul-add-lt}
use Rattle.sw_cursor.proofs.lifts.pixel_under.Goals as goal

pub returns-then-at_y-from-clause-range : goal.returns-then-at_y-from-clause-range
returns-then-at_y-from-clause-range c =
    let s = c.w.ensures.is_screen in
    let most_w = s.most_w in
    let most_h = s.most_h in
    let w = c.w.ensures.value in
    let h = c.h.ensures.value in
    let width = c.from-width.ensures in
    let height = c.from-then-at_x-width.ensures in
    let x = c.if-at_x-width.true in
    let y = c.if-at_y-from.true in
    let few = mul-add-lt (c.from-3.result + c.from-4.result) c.from-width.result (c.from.result + c.from-2.result) 480 (omega arith) (omega arith) in
    let all = mul-add-lt (c.from-3.result + c.from-4.result) c.from-width.result (c.from.result + c.from-2.result) c.from-then-at_x-width.result y x in (
      omega arith,
      subst (λ n. (c.from-3.result + c.from-4.result) * c.from-width.result + (c.from.result + c.from-2.result) < n * c.args.size.h) (width ∙ w)
          (subst (λ n. (c.from-3.result + c.from-4.result) * c.from-width.result + (c.from.result + c.from-2.result) < c.from-width.result * n) (height ∙ h) all),
    )

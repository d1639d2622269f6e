use Rattle.std.proofs.Common.{◌≡◌, ◌++◌, append-nil, sym, refl, ap, ◌∙◌, arith}
use Rattle.std.specs.List.{range_with_len}
use Rattle.canvas_steps.proofs.Pushing.{stretch_more}
use Rattle.canvas_steps.proofs.pixels.push_stretch.Goals as goal

pub loop-j-init : goal.loop-j-init
loop-j-init c = sym (append-nil c.args.pixels.now.items)

pub loop-j-preserved : goal.loop-j-preserved
loop-j-preserved c = stretch_more c.args.pixels.now.items c.loop-j.pixels.items _ c.args.first c.loop-j.j _ c.loop-j.invariant c.in_ok-push.ensures.items refl

pub returns : goal.returns
returns c =
    let a = c.loop-j-test.false in
    let b = c.loop-j.auto.j-end in
    let z : c.loop-j.j ≡ c.args.count = omega arith in
    c.loop-j.invariant ∙ ap (λ n. c.args.pixels.now.items ++ range_with_len c.args.first n) z

use Rattle.std.proofs.Common.{List, ap, ◌∙◌}
use Rattle.qws_base.specs.Points.{IsPlaced, minus}
use Rattle.qws_base.specs.Windows.{origin_of}
use Rattle.qws_base.specs.declared.points.Point.{Point}
use Rattle.qws_base.specs.declared.windows.WindowView.{WindowView}
use Rattle.step_regions.proofs.Moved.{each_planned, placed_at, difference_fits, difference_near, distance_is}
use Rattle.step_regions.proofs.moves.distance.Goals as goal

pub overflow_sub-result : goal.overflow_sub-result
overflow_sub-result c =
    let before : IsPlaced c.origin_of-before.result = placed_at c.args.slot c.args.core.now.state.windows c.windows.result.now c.origin_of-before.result c.origin_of-before.ensures c.windows.ensures.windows c.windows.ensures.served.windows.each in
    let after : IsPlaced c.origin_of-after.result = placed_at c.args.slot c.args.plan.now.windows c.windows-2.result.now c.origin_of-after.result c.origin_of-after.ensures c.windows-2.ensures (each_planned c.args.core.now c.args.plan.now c.requires c.windows.ensures.served.windows) in
    difference_fits c.origin_of-after.result.x c.origin_of-before.result.x after.low_x after.high_x before.low_x before.high_x

pub overflow_sub-result-2 : goal.overflow_sub-result-2
overflow_sub-result-2 c =
    let before : IsPlaced c.origin_of-before.result = placed_at c.args.slot c.args.core.now.state.windows c.windows.result.now c.origin_of-before.result c.origin_of-before.ensures c.windows.ensures.windows c.windows.ensures.served.windows.each in
    let after : IsPlaced c.origin_of-after.result = placed_at c.args.slot c.args.plan.now.windows c.windows-2.result.now c.origin_of-after.result c.origin_of-after.ensures c.windows-2.ensures (each_planned c.args.core.now c.args.plan.now c.requires c.windows.ensures.served.windows) in
    difference_fits c.origin_of-after.result.y c.origin_of-before.result.y after.low_y after.high_y before.low_y before.high_y

pub returns-clause-distance : goal.returns-clause-distance
returns-clause-distance c =
    let slot = c.args.slot in
    let b : Point = c.origin_of-before.result in
    let before : IsPlaced c.origin_of-before.result = placed_at c.args.slot c.args.core.now.state.windows c.windows.result.now c.origin_of-before.result c.origin_of-before.ensures c.windows.ensures.windows c.windows.ensures.served.windows.each in
    let after : IsPlaced c.origin_of-after.result = placed_at c.args.slot c.args.plan.now.windows c.windows-2.result.now c.origin_of-after.result c.origin_of-after.ensures c.windows-2.ensures (each_planned c.args.core.now c.args.plan.now c.requires c.windows.ensures.served.windows) in
    distance_is c.origin_of-after.result b after before ∙ ap (λ (p : Point). minus p b) (c.origin_of-after.ensures ∙ ap (λ (l : List WindowView). origin_of l slot) c.windows-2.ensures)
    ∙ ap (λ (p : Point). minus (origin_of c.args.plan.now.windows slot) p) (c.origin_of-before.ensures ∙ ap (λ (l : List WindowView). origin_of l slot) c.windows.ensures.windows)

pub returns-clause-near : goal.returns-clause-near
returns-clause-near c =
    let before : IsPlaced c.origin_of-before.result = placed_at c.args.slot c.args.core.now.state.windows c.windows.result.now c.origin_of-before.result c.origin_of-before.ensures c.windows.ensures.windows c.windows.ensures.served.windows.each in
    let after : IsPlaced c.origin_of-after.result = placed_at c.args.slot c.args.plan.now.windows c.windows-2.result.now c.origin_of-after.result c.origin_of-after.ensures c.windows-2.ensures (each_planned c.args.core.now c.args.plan.now c.requires c.windows.ensures.served.windows) in (
      difference_near c.origin_of-after.result.x c.origin_of-before.result.x after.low_x after.high_x before.low_x before.high_x,
      difference_near c.origin_of-after.result.y c.origin_of-before.result.y after.low_y after.high_y before.low_y before.high_y,
    )

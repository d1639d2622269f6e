use Rattle.std.proofs.Common.{◌∙◌, ℕ, ◌≡◌, arith}
use Rattle.std.proofs.lemmas.List.{get_or-set_other}
use Rattle.std.proofs.lemmas.List.FromFn.{fill_by_all}
use Rattle.qws_base.specs.Points.{pixel_count}
use Rattle.qws_base.specs.Windows.{Layout, layout_of}
use Rattle.qws_base.specs.Scenes.{Setting, pixel_after_step}
use Rattle.qws_base.specs.declared.colours.Depth.TheVariants.{Full}
use Rattle.pixel_model.proofs.StepLemmas.{same_step, rise_more}
use Rattle.pixel_model.proofs.steps.rise.Goals as goal

pub returns : goal.returns
returns c =
    let setting : Setting = record { size = c.args.size; depth = Full; backdrop = c.args.backdrop } in
    let before : Layout = layout_of c.args.size c.args.before.now in
    let after : Layout = layout_of c.args.size c.args.after.now in
    let f : ℕ → ℕ = pixel_after_step setting before after c.args.moved c.args.cells.now in
    fill_by_all f c.loop-p.cells (pixel_count c.args.size) 0 (omega arith) (λ k below. c.loop-p.invariant.done k (omega arith))

pub loop-p-preserved : goal.loop-p-preserved
loop-p-preserved c =
    let setting : Setting = record { size = c.args.size; depth = Full; backdrop = c.args.backdrop } in
    let before : Layout = layout_of c.args.size c.args.before.now in
    let after : Layout = layout_of c.args.size c.args.after.now in
    let f : ℕ → ℕ = pixel_after_step setting before after c.args.moved c.args.cells.now in
    let same : pixel_after_step setting before after c.args.moved c.loop-p.cells c.loop-p.p ≡ f c.loop-p.p =
    same_step setting before after c.args.moved c.args.cells.now c.loop-p.cells c.loop-p.p (c.loop-p.invariant.left c.loop-p.p (omega arith)) (λ q is. c.loop-p.invariant.left q (c.requires.down c.loop-p.p q is)) in
    record {
      done = rise_more f c.loop-p.cells c.loop-p.p c.stepped_pixel.result (omega arith) (c.stepped_pixel.ensures ∙ same) c.loop-p.invariant.done;
      left = λ k later. get_or-set_other c.loop-p.cells c.loop-p.p k c.stepped_pixel.result 0 (omega arith) ∙ c.loop-p.invariant.left k (omega arith);
    }

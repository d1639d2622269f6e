use Rattle.std.proofs.Common.{◌≡◌, ap, ◌∙◌, sym, subst, arith}
use Rattle.qws_base.specs.Windows.{Layout, layout_of}
use Rattle.qws_base.specs.Scenes.{Setting, scene_after_step}
use Rattle.pixel_model.specs.Drawn.{AllSceneColours}
use Rattle.pixel_model.proofs.ColourLemmas.{redrawn, step_colours}
use Rattle.pixel_model.proofs.canvas.Canvas.apply_step.Goals as goal

pub invariant_of-self : goal.invariant_of-self
invariant_of-self c =
    let setting : Setting = record { size = c.self.inside.size; depth = c.self.inside.depth; backdrop = c.self.inside.backdrop } in
    let before : Layout = layout_of c.self.inside.size c.args.before.now in
    let after : Layout = layout_of c.self.inside.size c.args.after.now in
    let is : c.apply.new.cells ≡ scene_after_step setting before after c.args.moved c.self.inside.cells.items =
    c.apply.ensures ∙ ap (scene_after_step setting before after c.args.moved) c.deref_mut.ensures.value in
    redrawn setting c.self.inside.cells.len c.self.inside.cells.items c.apply.new.cells (omega arith) c.self.invariant (omega arith)
    (subst (AllSceneColours c.self.inside.depth) (sym is) (step_colours setting before after c.args.moved c.self.inside.cells.items c.self.invariant.backdrop c.self.invariant.colours))

use Rattle.std.proofs.Common.{◌≡◌, length, ap, ◌∙◌, sym, subst, arith}
use Rattle.qws_base.specs.Scenes.{Setting}
use Rattle.pixel_model.proofs.ColourLemmas.{redrawn}
use Rattle.pixel_model.proofs.canvas.Canvas.apply_paint.Goals as goal

pub invariant_of-self : goal.invariant_of-self
invariant_of-self g c =
    let setting : Setting = record { size = c.self.inside.size; depth = c.self.inside.depth; backdrop = c.self.inside.backdrop } in
    redrawn setting c.self.inside.cells.len c.self.inside.cells.items c.paint.new.cells (omega arith) c.self.invariant (omega arith) c.paint.ensures.colours

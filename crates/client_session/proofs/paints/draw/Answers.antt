use Rattle.std.proofs.Common.{◌≡◌, subst, sym, ap, ◌∙◌}
use Rattle.gfx_painters.specs.Paints.{paint_sheet}
use Rattle.client_session.specs.Keeping.{HasDrawn}
use Rattle.client_session.proofs.Drawing.{painted_drawn, stopped_drawn}
use Rattle.client_session.proofs.paints.draw.Goals as goal

pub returns-in-Ok-clause-drawn : goal.returns-in-Ok-clause-drawn
returns-in-Ok-clause-drawn g c =
    subst (λ k. HasDrawn c.args.pass.now c.try_paint.new.pass k c.try_paint.new.clip (paint_sheet c.args.paint.now) c.args.tag) c.loop.invariant.clip
    (painted_drawn _ _ _ _ _ _ _ _ c.loop.invariant.own c.in-Ok.ensures.answer)

pub returns-in-Err-Gone-clause-drawn : goal.returns-in-Err-Gone-clause-drawn
returns-in-Err-Gone-clause-drawn g c =
    subst (λ k. HasDrawn c.args.pass.now c.try_paint.new.pass k c.try_paint.new.clip (paint_sheet c.args.paint.now) c.args.tag) c.loop.invariant.clip
    (stopped_drawn _ _ _ _ _ _ _ _ _ c.loop.invariant.own c.in-Err-Gone.field-0-is c.in-Err-Gone.ensures.answer)

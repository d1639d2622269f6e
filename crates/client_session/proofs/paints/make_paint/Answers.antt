use Rattle.std.proofs.Common.{◌≡◌, ◌<◌, ◌≤◌, length, refl, ap, sym, ◌∙◌, arith}
use Rattle.std.specs.Prelude.{slice_set}
use Rattle.client_session.proofs.Progress.{paint_low, paint_room}
use Rattle.client_session.proofs.Running.{paints_on}
use Rattle.client_session.proofs.paints.make_paint.Goals as goal

pub take-requires-clause-slot : goal.take-requires-clause-slot
take-requires-clause-slot g c = paint_low c.args.script.now c.args.k c.args.slot c.args.space.now.names c.args.paint.now c.calls-calls.ensures.session c.requires.running.at.slots c.requires.call

pub draw-requires-clause-room : goal.draw-requires-clause-room
draw-requires-clause-room g c =
    let fewer = paint_room c.args.script.now c.args.pass.now.client c.args.k c.args.slot c.args.space.now.names c.args.paint.now c.requires.running.at c.requires.call in
    let most = c.requires.running.limits.paints in omega arith

pub returns-clause-running : goal.returns-clause-running
returns-clause-running g c =
    paints_on c.args.script.now c.args.pass.now c.draw.new.pass c.args.k c.args.slot c.args.space.now _ c.args.paint.now c.in_ok-clip.clip c.draw.new.clip
    (paint_low c.args.script.now c.args.k c.args.slot c.args.space.now.names c.args.paint.now c.calls-calls.ensures.session c.requires.running.at.slots c.requires.call)
    c.requires.running c.requires.call c.in_ok-clip.ensures.clip c.draw.ensures.back c.draw.ensures.drawn c.draw.ensures.others c.draw.ensures.known c.draw.ensures.slot
    refl (c.put.ensures.list ∙ ap (λ l. slice_set l c.args.slot (Rattle.std.proofs.Common.Some c.draw.new.clip)) c.in_ok-clip.ensures.list)

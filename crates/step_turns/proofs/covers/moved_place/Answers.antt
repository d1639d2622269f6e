use Rattle.std.proofs.Common.{ap, ◌∙◌}
use Rattle.qws_base.specs.Points.{minus, shifted}
use Rattle.qws_base.specs.Windows.{origin_of}
use Rattle.qws_base.specs.declared.points.Point.{Point}
use Rattle.step_turns.proofs.Meeting.{moved_same}
use Rattle.step_turns.proofs.covers.moved_place.Goals as goal

pub returns-in-Move : goal.returns-in-Move
returns-in-Move c = λ s moves. c.moved_by.ensures ∙ ap (λ (d : Point). shifted d c.args.place)
    (c.distance.ensures.distance ∙ ap (λ n. minus (origin_of c.args.plan.now.windows n) (origin_of c.args.core.now.state.windows n)) (moved_same c.args.plan.now c.in-Move.slot c.in-Move.origin s (c.requires.command ∙ c.in-Move.is) moves))

use Rattle.std.proofs.Common.{subst}
use Rattle.qws_base.specs.Windows.{layout_of}
use Rattle.pixel_model.specs.Directions.{GoesOn, GoesBack}
use Rattle.pixel_model.proofs.CarryLemmas.{carries_up, carries_down}
use Rattle.pixel_model.proofs.steps.apply_move.Goals as goal

pub fall-requires-clause-up : goal.fall-requires-clause-up
fall-requires-clause-up c = carries_up c.args.size (layout_of c.args.size c.args.before.now) (layout_of c.args.size c.args.after.now) c.args.slot (subst GoesOn c.shift_of.ensures.value (rw c.if-goes_on.true at c.goes_on.ensures.on))

pub rise-requires-clause-down : goal.rise-requires-clause-down
rise-requires-clause-down c = carries_down c.args.size (layout_of c.args.size c.args.before.now) (layout_of c.args.size c.args.after.now) c.args.slot (subst GoesBack c.shift_of.ensures.value (rw c.if-goes_on.false at c.goes_on.ensures.back))

use Rattle.std.proofs.Common.{rules, ◌≡◌, true, ⊎_elim, inr, refl, sym, ap, subst, append-nil}
use Rattle.std.specs.Prelude.{All}
use Rattle.qws_base.specs.Sides.{Sides}
use Rattle.qws_base.specs.RectPixels.{IsWithin}
use Rattle.qws_base.specs.Scenes.{Setting}
use Rattle.step_regions.specs.Carried.{slot_carried}
use Rattle.step_turns.proofs.Meeting.{carried_within}
use Rattle.step_turns.proofs.Carried.{draws_on, sweeps_on, sweeps_leave, stays_leaves}
use Rattle.step_turns.proofs.publishing.draw.Goals as goal

pub redraw-requires-clause-carried : goal.redraw-requires-clause-carried
redraw-requires-clause-carried c =
    subst (λ (z : Sides). All (IsWithin z) c.args.changes.now.carried.region) (sym (ap (λ (v : Setting). v.size) c.requires.screen))
    (carried_within c.args.core.now.size c.args.core.now.state.windows c.args.plan.now.windows (slot_carried c.args.plan.now) c.args.changes.now.carried c.requires.changes.carried)

pub returns-then-lift_cursor-clause-log : goal.returns-then-lift_cursor-clause-log
returns-then-lift_cursor-clause-log c =
    draws_on c.args.turn.now.screen.now.setting c.args.core.now.state.cursor _ c.cursor.result.now c.args.plan.now c.args.changes.now c.scene-backdrop.result c.args.turn.now.head.now.server.log c.redraw.new.turn.head.now.server.log
    c.requires.cursor c.cursor.ensures (search rules) c.requires.reads (c.redraw.ensures.true_log c.requires.true_log) c.redraw.ensures.log

pub returns-then-lift_cursor-clause-away : goal.returns-then-lift_cursor-clause-away
returns-then-lift_cursor-clause-away c = λ clear stays. absurd (⊎_elim
    (λ (p : c.args.changes.now.points ≡ true). c.requires.changes.other_cursor p stays)
    (λ (q : c.args.changes.now.covered ≡ true). c.requires.changes.covered q clear)
    (c.lift_cursor.ensures.on c.if-lift_cursor.true))

pub returns-else-lift_cursor-clause-log : goal.returns-else-lift_cursor-clause-log
returns-else-lift_cursor-clause-log c =
    let off = c.lift_cursor.ensures.off c.if-lift_cursor.false in
    sweeps_on c.args.turn.now.screen.now.setting c.args.core.now.size c.args.core.now.state.cursor c.args.plan.now c.args.changes.now c.scene-backdrop.result c.args.turn.now.head.now.server.log c.sweep.new.turn.head.now.server.log
    (ap (λ (v : Setting). v.size) c.requires.screen) (c.requires.changes.clear off.1) c.sweep.ensures.log (c.requires.changes.same_cursor off.0) (search rules) (c.sweep.ensures.true_log c.requires.true_log)

pub returns-else-lift_cursor-clause-away : goal.returns-else-lift_cursor-clause-away
returns-else-lift_cursor-clause-away c = λ clear stays.
    sweeps_leave c.args.turn.now.screen.now.setting c.args.core.now.size c.args.core.now.state.cursor c.args.plan.now c.args.changes.now c.scene-backdrop.result c.args.turn.now.head.now.server.log c.sweep.new.turn.head.now.server.log
    (ap (λ (v : Setting). v.size) c.requires.screen) clear c.sweep.ensures.log c.requires.served.cursor.shape

pub returns-else-are_drawn-clause-log : goal.returns-else-are_drawn-clause-log
returns-else-are_drawn-clause-log c =
    let still = c.are_drawn.ensures.still c.if-are_drawn.false in
    record { added = _; log = sym (append-nil c.args.turn.now.head.now.server.log); draws = inr (inr (refl, record { cursor = c.requires.changes.same_cursor still.0; pixels = still.1 })); true_log = c.requires.true_log }

pub returns-else-are_drawn-clause-away : goal.returns-else-are_drawn-clause-away
returns-else-are_drawn-clause-away c = λ clear stays. stays_leaves c.args.core.now.size c.args.core.now.state.cursor c.args.turn.now.head.now.server.log c.args.turn.now.head.now.server.log refl

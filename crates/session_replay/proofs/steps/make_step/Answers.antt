use Rattle.std.proofs.Common.{ℕ, ap, ◌∙◌}
use Rattle.qws_base.specs.Steps.{step}
use Rattle.qws_base.specs.Histories.{World, scene_after}
use Rattle.session_replay.proofs.steps.make_step.Goals as goal

pub returns-clause-scene : goal.returns-clause-scene
returns-clause-scene c =
    let world : World = record { state = c.args.core.now.state; scene = c.args.canvas.now.scene } in
    let after : ℕ → _ = λ n. scene_after c.args.canvas.now.setting world c.args.command.now (step c.args.core.now.size c.args.core.now.state n c.args.command.now) in
    c.in_ok-show_step.ensures.scene ∙ ap after c.in_ok-plan.ensures.client

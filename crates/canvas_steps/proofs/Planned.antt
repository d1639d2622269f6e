-- The scene after a plan's step.
use Rattle.std.proofs.Common.{◌≡◌, ℕ, List, Bool, true, false, ap, sym, ◌∙◌}
use Rattle.std.specs.Prelude.{None, if◌then◌else◌}
use Rattle.qws_base.specs.States.{State, is_refused, moved_slot}
use Rattle.qws_base.specs.Steps.{step}
use Rattle.qws_base.specs.Windows.{layout_of}
use Rattle.qws_base.specs.Scenes.{Setting, scene_after_step}
use Rattle.qws_base.specs.Histories.{scene_after}
use Rattle.qws_base.specs.declared.windows.WindowView.{WindowView}
use Rattle.qws_base.specs.declared.commands.Command.{Command}
use Rattle.qws_base.specs.declared.replies.Reply.{Reply}
use Rattle.window_core.specs.CoreViews.{PlanView, Belongs}
use Rattle.step_regions.specs.Carried.{slot_carried}

-- the picture with the windows of a plan that isn't refused is the scene after its step
pub planned_scene : (setting : Setting) (plan : PlanView) (state : State) (command : Command) (scene : List ℕ) → Belongs setting.size plan state → plan.command ≡ command → is_refused plan.reply ≡ false
    → scene_after_step setting (layout_of setting.size state.windows) (layout_of setting.size plan.windows) (slot_carried plan) scene ≡ scene_after setting (record { state = state; scene = scene }) command (step setting.size state plan.client command)
planned_scene setting plan state command scene belongs same accepted =
    let after : Bool → List WindowView → List ℕ = λ refused windows. if refused then scene else scene_after_step setting (layout_of setting.size state.windows) (layout_of setting.size windows) (moved_slot command) scene in
    let reply : plan.reply ≡ (step setting.size state plan.client command).1 = belongs.reply ∙ ap (λ (k : Command). (step setting.size state plan.client k).1) same in
    let windows : plan.windows ≡ (step setting.size state plan.client command).0.windows = belongs.windows ∙ ap (λ (k : Command). (step setting.size state plan.client k).0.windows) same in
    ap (λ b. scene_after_step setting (layout_of setting.size state.windows) (layout_of setting.size plan.windows) (if b then None else moved_slot plan.command) scene) accepted
    ∙ ap (λ (k : Command). scene_after_step setting (layout_of setting.size state.windows) (layout_of setting.size plan.windows) (moved_slot k) scene) same
    ∙ ap (λ b. after b plan.windows) (sym accepted)
    ∙ ap (λ (r : Reply). after (is_refused r) plan.windows) reply
    ∙ ap (after (is_refused (step setting.size state plan.client command).1)) windows

-- a refused one leaves the scene
pub refused_scene : (setting : Setting) (plan : PlanView) (state : State) (command : Command) (scene : List ℕ) → Belongs setting.size plan state → plan.command ≡ command → is_refused plan.reply ≡ true
    → scene ≡ scene_after setting (record { state = state; scene = scene }) command (step setting.size state plan.client command)
refused_scene setting plan state command scene belongs same refused =
    let reply : plan.reply ≡ (step setting.size state plan.client command).1 = belongs.reply ∙ ap (λ (k : Command). (step setting.size state plan.client k).1) same in
    let windows : List WindowView = (step setting.size state plan.client command).0.windows in
    ap (λ b. if b then scene else scene_after_step setting (layout_of setting.size state.windows) (layout_of setting.size windows) (moved_slot command) scene) (sym refused ∙ ap is_refused reply)

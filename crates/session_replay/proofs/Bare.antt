-- The canvas of a replay has the core's screen, and the backdrop where no window owns the pixel.
use Rattle.std.proofs.Common.{◌≡◌, List, sym, ap, ◌∙◌, subst}
use Rattle.qws_base.specs.Sides.{Sides}
use Rattle.qws_base.specs.States.{State}
use Rattle.qws_base.specs.Windows.{layout_of}
use Rattle.qws_base.specs.Scenes.{Setting, setting_of}
use Rattle.qws_base.specs.Histories.{Entry, world_after}
use Rattle.qws_base.specs.declared.colours.Depth.{Depth}
use Rattle.qws_base.proofs.StepLaws.{refused_law}
use Rattle.turn_logs.specs.Carries.{IsBare}
use Rattle.turn_logs.proofs.Bare.{history_bare}
use Rattle.window_core.specs.CoreViews.{CoreView}
use Rattle.pixel_model.specs.Drawn.{Drawn}
use Rattle.script_grammar.specs.Session.{Session, session_setting}
use Rattle.session_replay.specs.Steps.{IsWorld}

pub world_screen : (session : Session) (h : List Entry) (core : CoreView) (canvas : Drawn) → IsWorld session h core canvas → canvas.setting ≡ setting_of core.size canvas.setting.depth core.backdrop
world_screen session h core canvas is =
    is.setting ∙ ap (λ (s : Sides). setting_of s session.depth session.backdrop) (sym is.size)
    ∙ ap (λ (d : Depth). setting_of core.size d session.backdrop) (sym (ap (λ (s : Setting). s.depth) is.setting))
    ∙ ap (setting_of core.size canvas.setting.depth) (sym is.backdrop)

pub world_bare : (session : Session) (h : List Entry) (core : CoreView) (canvas : Drawn) → IsWorld session h core canvas → IsBare canvas.setting (layout_of core.size core.state.windows) canvas.scene
world_bare session h core canvas is =
    let setting : Setting = session_setting session in
    subst (λ (s : Setting). IsBare s (layout_of core.size core.state.windows) canvas.scene) (sym is.setting)
    (subst (λ (z : Sides). IsBare setting (layout_of z core.state.windows) canvas.scene) (sym is.size)
    (subst (λ (s : State). IsBare setting (layout_of setting.size s.windows) canvas.scene) (sym is.state)
    (subst (IsBare setting (layout_of setting.size (world_after setting h).state.windows)) (sym is.scene) (history_bare refused_law setting h))))

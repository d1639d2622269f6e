use Rattle.std.proofs.Common.{◌≡◌, ℕ, ◌<◌, List, map, sym, ap, ◌∙◌, subst}
use Rattle.std.specs.Prelude.{All, slice_index}
use Rattle.qws_base.specs.Sides.{Sides}
use Rattle.qws_base.specs.Colours.{scene_colour}
use Rattle.qws_base.specs.Points.{any_holds, pixel_count}
use Rattle.qws_base.specs.RectPixels.{IsWithin, rects_pixels}
use Rattle.qws_base.specs.Steps.{step}
use Rattle.qws_base.specs.Windows.{layout_of}
use Rattle.qws_base.specs.Scenes.{Setting}
use Rattle.qws_base.specs.Histories.{World, scene_after}
use Rattle.qws_base.specs.declared.points.Point.{Point}
use Rattle.qws_base.specs.declared.points.Rect.{Rect}
use Rattle.pixel_model.specs.Drawn.{Drawn}
use Rattle.window_core.specs.CoreViews.{CoreView, PlanView, Belongs}
use Rattle.turn_logs.specs.Carries.{IsBare}
use Rattle.step_regions.specs.Bared.{is_lost}
use Rattle.step_regions.specs.Carried.{CarriesFor, slot_carried, source}
use Rattle.step_regions.specs.declared.moves.CarriedPixels.{CarriedPixels}
use Rattle.canvas_steps.specs.Laid.{laid}
use Rattle.canvas_steps.proofs.Laying.{all_pixels, carries_within, carries_sources, same_length, shown_step}
use Rattle.canvas_steps.proofs.Planned.{planned_scene, refused_scene}
use Rattle.canvas_steps.proofs.steps.show_step.Goals as goal

pub returns-then-is_refusal-clause-scene : goal.returns-then-is_refusal-clause-scene
returns-then-is_refusal-clause-scene c =
    let core : CoreView = c.args.core.now in
    let plan : PlanView = c.args.plan.now in
    let setting : Setting = c.args.canvas.now.setting in
    let size_is : setting.size ≡ core.size = ap (λ (s : Setting). s.size) c.requires.screen in
    let scene : List ℕ = c.args.canvas.now.scene in
    let world : World = record { state = core.state; scene = scene } in
    refused_scene setting plan core.state c.args.command.now scene (subst (λ (s : Sides). Belongs s plan core.state) (sym size_is) c.requires.belongs) c.requires.command (sym c.is_refusal.ensures ∙ c.if-is_refusal.true)
    ∙ ap (λ (s : Sides). scene_after setting world c.args.command.now (step s core.state plan.client c.args.command.now)) size_is

pub carried-requires-clause-within : goal.carried-requires-clause-within
carried-requires-clause-within c =
    let core : CoreView = c.args.core.now in
    let plan : PlanView = c.args.plan.now in
    let setting : Setting = c.args.canvas.now.setting in
    let size_is : setting.size ≡ core.size = ap (λ (s : Setting). s.size) c.requires.screen in
    let carried : CarriedPixels = c.in_ok-carried.carried in
    let carries : CarriesFor setting.size core.state.windows plan.windows (slot_carried plan) carried.region carried.falling carried.by =
    subst (λ (s : Sides). CarriesFor s core.state.windows plan.windows (slot_carried plan) carried.region carried.falling carried.by) (sym size_is) c.in_ok-carried.ensures in
    carries_within setting.size core.state.windows plan.windows (slot_carried plan) carried.region carried.falling carried.by carries

pub carried-requires-clause-sources : goal.carried-requires-clause-sources
carried-requires-clause-sources c =
    let core : CoreView = c.args.core.now in
    let plan : PlanView = c.args.plan.now in
    let setting : Setting = c.args.canvas.now.setting in
    let size_is : setting.size ≡ core.size = ap (λ (s : Setting). s.size) c.requires.screen in
    let carried : CarriedPixels = c.in_ok-carried.carried in
    let carries : CarriesFor setting.size core.state.windows plan.windows (slot_carried plan) carried.region carried.falling carried.by =
    subst (λ (s : Sides). CarriesFor s core.state.windows plan.windows (slot_carried plan) carried.region carried.falling carried.by) (sym size_is) c.in_ok-carried.ensures in
    carries_sources setting core.state.windows plan.windows (slot_carried plan) carried.region carried.falling carried.by carries

pub filled-requires : goal.filled-requires
filled-requires c = subst (λ (s : Sides). All (IsWithin s) c.in_ok-lost.lost) (sym (ap (λ (s : Setting). s.size) c.requires.screen)) c.in_ok-lost.ensures.within

pub lay-requires-clause-pixels : goal.lay-requires-clause-pixels
lay-requires-clause-pixels c =
    let core : CoreView = c.args.core.now in
    let plan : PlanView = c.args.plan.now in
    let setting : Setting = c.args.canvas.now.setting in
    let size_is : setting.size ≡ core.size = ap (λ (s : Setting). s.size) c.requires.screen in
    let carried : CarriedPixels = c.in_ok-carried.carried in
    let carries : CarriesFor setting.size core.state.windows plan.windows (slot_carried plan) carried.region carried.falling carried.by =
    subst (λ (s : Sides). CarriesFor s core.state.windows plan.windows (slot_carried plan) carried.region carried.falling carried.by) (sym size_is) c.in_ok-carried.ensures in
    subst (All (λ p. p < pixel_count setting.size)) (sym c.in_ok-brought.ensures.pixels)
    (all_pixels setting.size carried.region (λ p. p < pixel_count setting.size) (carries_within setting.size core.state.windows plan.windows (slot_carried plan) carried.region carried.falling carried.by carries) (λ p below holds. below))

pub lay-requires-clause-colours : goal.lay-requires-clause-colours
lay-requires-clause-colours c =
    let carried : CarriedPixels = c.in_ok-carried.carried in
    same_length (scene_colour c.args.canvas.now.setting.depth) (λ p. slice_index c.args.canvas.now.scene (source carried.falling carried.by p)) c.in_ok-brought.brought.colours.items c.in_ok-brought.brought.pixels.items c.in_ok-brought.ensures.colours

pub lay-requires-2-clause-pixels : goal.lay-requires-2-clause-pixels
lay-requires-2-clause-pixels c =
    let setting : Setting = c.args.canvas.now.setting in
    subst (λ (d : Drawn). All (λ p. p < pixel_count d.setting.size) c.in_ok-bare.bare.pixels.items) (sym c.lay.ensures)
    (subst (All (λ p. p < pixel_count setting.size)) (sym c.in_ok-bare.ensures.pixels)
    (all_pixels setting.size c.in_ok-lost.lost (λ p. p < pixel_count setting.size) (subst (λ (s : Sides). All (IsWithin s) c.in_ok-lost.lost) (sym (ap (λ (s : Setting). s.size) c.requires.screen)) c.in_ok-lost.ensures.within) (λ p below holds. below)))

pub lay-requires-2-clause-colours : goal.lay-requires-2-clause-colours
lay-requires-2-clause-colours c =
    let depth = c.args.canvas.now.setting.depth in
    same_length (scene_colour depth) (λ p. scene_colour depth c.backdrop.result) c.in_ok-bare.bare.colours.items c.in_ok-bare.bare.pixels.items c.in_ok-bare.ensures.colours

pub returns-clause-scene : goal.returns-clause-scene
returns-clause-scene c =
    let core : CoreView = c.args.core.now in
    let plan : PlanView = c.args.plan.now in
    let setting : Setting = c.args.canvas.now.setting in
    let size_is : setting.size ≡ core.size = ap (λ (s : Setting). s.size) c.requires.screen in
    let carried : CarriedPixels = c.in_ok-carried.carried in
    let carries : CarriesFor setting.size core.state.windows plan.windows (slot_carried plan) carried.region carried.falling carried.by =
    subst (λ (s : Sides). CarriesFor s core.state.windows plan.windows (slot_carried plan) carried.region carried.falling carried.by) (sym size_is) c.in_ok-carried.ensures in
    let scene : List ℕ = c.args.canvas.now.scene in
    let world : World = record { state = core.state; scene = scene } in
    let lost : List Rect = c.in_ok-lost.lost in
    let is_lost_there : (p : Point) → any_holds lost p ≡ is_lost setting.size core.state.windows plan.windows p =
    subst (λ (s : Sides). (p : Point) → any_holds lost p ≡ is_lost s core.state.windows plan.windows p) (sym size_is) c.in_ok-lost.ensures.points in
    let lost_within : All (IsWithin setting.size) lost = subst (λ (s : Sides). All (IsWithin s) lost) (sym size_is) c.in_ok-lost.ensures.within in
    let bare : IsBare setting (layout_of setting.size core.state.windows) scene = subst (λ (s : Sides). IsBare setting (layout_of s core.state.windows) scene) (sym size_is) c.requires.bare in
    let belongs : Belongs setting.size plan core.state = subst (λ (s : Sides). Belongs s plan core.state) (sym size_is) c.requires.belongs in
    let colour : ℕ = scene_colour setting.depth c.backdrop.result in
    let backdrop : colour ≡ setting.backdrop = ap (scene_colour setting.depth) c.backdrop.ensures ∙ sym (ap (λ (s : Setting). s.backdrop) c.requires.screen) in
    let f : ℕ → ℕ = λ p. slice_index scene (source carried.falling carried.by p) in
    let brought = c.in_ok-brought.ensures in
    let filled = c.in_ok-bare.ensures in
    let ps : List ℕ = c.in_ok-brought.brought.pixels.items in
    let qs : List ℕ = c.in_ok-bare.bare.pixels.items in
    let first : List ℕ = laid ps (map (scene_colour setting.depth) c.in_ok-brought.brought.colours.items) scene in
    ap (λ (d : Drawn). d.scene) c.lay-2.ensures
    ∙ ap (λ (d : Drawn). laid qs (map (scene_colour d.setting.depth) c.in_ok-bare.bare.colours.items) d.scene) c.lay.ensures
    ∙ ap (λ (vs : List ℕ). laid qs vs first) filled.colours
    ∙ ap (λ (vs : List ℕ). laid qs (map (λ p. colour) qs) (laid ps vs scene)) brought.colours
    ∙ ap (λ (l : List ℕ). laid l (map (λ p. colour) l) (laid ps (map f ps) scene)) filled.pixels
    ∙ ap (λ (l : List ℕ). laid (rects_pixels setting.size.w lost) (map (λ p. colour) (rects_pixels setting.size.w lost)) (laid l (map f l) scene)) brought.pixels
    ∙ ap (λ (v : ℕ). laid (rects_pixels setting.size.w lost) (map (λ p. v) (rects_pixels setting.size.w lost)) (laid (rects_pixels setting.size.w carried.region) (map f (rects_pixels setting.size.w carried.region)) scene)) backdrop
    ∙ shown_step setting core.state.windows plan.windows (slot_carried plan) carried.region lost carried.falling carried.by scene carries is_lost_there bare
    (carries_within setting.size core.state.windows plan.windows (slot_carried plan) carried.region carried.falling carried.by carries) lost_within c.pixels-pixels.ensures.len
    ∙ planned_scene setting plan core.state c.args.command.now scene belongs c.requires.command (sym c.is_refusal.ensures ∙ c.if-is_refusal.false)
    ∙ ap (λ (s : Sides). scene_after setting world c.args.command.now (step s core.state plan.client c.args.command.now)) size_is

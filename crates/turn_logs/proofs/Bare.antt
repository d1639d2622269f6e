-- Where no window owns a pixel the scene has the backdrop, and keeps it through steps and paints.
use Rattle.std.proofs.Common.{◌≡◌, ℕ, Bool, true, false, if◌then◌else◌, List, [], ◌∷◌, Option, None, Some, refl, sym, ap, ◌∙◌, subst}
use Rattle.std.specs.Prelude.{is_none, slice_index}
use Rattle.std.proofs.lemmas.List.{get_or-replicate}
use Rattle.qws_base.specs.Inks.{ink_after}
use Rattle.qws_base.specs.Points.{pixel_count}
use Rattle.qws_base.specs.Sheets.{Sheet}
use Rattle.qws_base.specs.States.{State, is_refused, moved_slot}
use Rattle.qws_base.specs.Steps.{step}
use Rattle.qws_base.specs.StepLaws.{RefusedLaw}
use Rattle.qws_base.specs.Windows.{Layout, layout_of, is_slot}
use Rattle.qws_base.specs.Scenes.{Setting, by_pixels, ink_on, pixel_after_paint, scene_after_step}
use Rattle.qws_base.specs.Histories.{Entry, World, next_world, opening_world, world_from}
use Rattle.qws_base.specs.Histories.Entry.{Step as StepEntry, Paint as PaintEntry}
use Rattle.qws_base.specs.declared.commands.Command.{Command}
use Rattle.region_table.proofs.Pixels.{at_pixel}
use Rattle.turn_logs.specs.Carries.{IsBare}
use Rattle.turn_logs.proofs.Standing.{bare_after}

abbrev IsBareWorld : Setting → World → Type 0
IsBareWorld setting world = IsBare setting (layout_of setting.size world.state.windows) world.scene

unowned : (slot : ℕ) (found : Option ℕ) → is_none found ≡ true → is_slot slot found ≡ false
unowned slot None none = refl
unowned slot (Some other) none = cc

module _ (refused : RefusedLaw) (setting : Setting) where
  pub bare_step : (world : World) (client : ℕ) (command : Command) (is : Bool) → is_refused (step setting.size world.state client command).1 ≡ is → IsBareWorld setting world
      → IsBare setting (layout_of setting.size (step setting.size world.state client command).0.windows)
      (if is then world.scene else scene_after_step setting (layout_of setting.size world.state.windows) (layout_of setting.size (step setting.size world.state client command).0.windows) (moved_slot command) world.scene)
  bare_step world client command true same bare = subst (λ (s : State). IsBare setting (layout_of setting.size s.windows) world.scene) (sym (refused setting.size world.state client command same)) bare
  bare_step world client command false same bare = bare_after setting (layout_of setting.size world.state.windows) (layout_of setting.size (step setting.size world.state client command).0.windows) (moved_slot command) world.scene

  pub bare_paint : (world : World) (slot : ℕ) (sheet : Sheet) (own : Bool) → IsBareWorld setting world
      → IsBare setting (layout_of setting.size world.state.windows) (if own then by_pixels setting.size (pixel_after_paint setting (layout_of setting.size world.state.windows) slot sheet world.scene) else world.scene)
  bare_paint world slot sheet false bare = bare
  bare_paint world slot sheet true bare = λ p within none.
      let layout : Layout = layout_of setting.size world.state.windows in
      at_pixel setting.size (pixel_after_paint setting layout slot sheet world.scene) p 0 within
      ∙ ap (λ b. if b then ink_after setting.depth (ink_on setting.size.w (layout.origin slot) sheet p) (slice_index world.scene p) else slice_index world.scene p) (unowned slot (layout.owner p) none)
      ∙ bare p within none

  bare_next : (world : World) (e : Entry) → IsBareWorld setting world → IsBareWorld setting (next_world setting world e)
  bare_next world (StepEntry client command reply) bare = bare_step world client command (is_refused (step setting.size world.state client command).1) refl bare
  bare_next world (PaintEntry client slot tag sheet reply) bare = bare_paint world slot sheet ((layout_of setting.size world.state.windows).is_own client slot) bare

  bare_from : (world : World) (h : List Entry) → IsBareWorld setting world → IsBareWorld setting (world_from setting world h)
  bare_from world [] bare = bare
  bare_from world (e ∷ h) bare = bare_from (next_world setting world e) h (bare_next world e bare)

  opening_bare : IsBareWorld setting (opening_world setting)
  opening_bare = λ p within none. get_or-replicate (pixel_count setting.size) p setting.backdrop 0 within

  -- after each history
  pub history_bare : (h : List Entry) → IsBareWorld setting (world_from setting (opening_world setting) h)
  history_bare h = bare_from (opening_world setting) h opening_bare

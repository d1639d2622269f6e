-- A log that carries pixels and then fills with the backdrop changes the scene.
use Rattle.std.specs.Prelude.{◌≡◌, ℕ, ◌<◌, ◌⊎◌, Bool, true, false, List, ◌++◌, Some, None, is_none, if◌then◌else◌}
use Rattle.qws_base.specs.Points.{any_holds, point_of, pixel_count}
use Rattle.qws_base.specs.Scenes.{Setting}
use Rattle.qws_base.specs.declared.points.Rect.{Rect}
use Rattle.qws_base.specs.declared.commands.Command.{Command}
use Rattle.qws_base.specs.declared.replies.Reply.{Reply}
use Rattle.region_table.specs.Layouts.{layout_of_table}
use Rattle.region_table.specs.declared.tables.Table.{Table}
use Rattle.turn_logs.specs.declared.items.Item.{Item}
use Rattle.turn_logs.specs.Carries.{source_of, is_bared}
use Rattle.turn_logs.specs.Phases.{ChangesScene}
use Rattle.scene_turns.specs.declared.works.Work.TheVariants.{Fill, Carry}
use Rattle.step_regions.specs.Carried.{source}
use Rattle.scene_turns.specs.Sweeps.{Sweeps}

-- the pixel is one of the rectangles'
abbrev pub is_in : Setting → List Rect → ℕ → Bool
is_in setting rects p = any_holds rects (point_of setting.size.w p)

-- What a step asks on pixel p: it is carried there exactly where it is in the one region; the backdrop is put exactly where
-- it is in the other, which it is where it loses its last owner, and only where nobody owns it afterwards.
pub record IsAsked (setting : Setting) (before after : Table) (command : Command) (reply : Reply) (falling : Bool) (by : ℕ) (carried bared : List Rect) (p : ℕ) : Type 0 where
  pub carried_is : source_of setting.size before after command reply p ≡ (if is_in setting carried p then Some (source falling by p) else None)
  pub source_in : is_in setting carried p ≡ true → source falling by p < pixel_count setting.size
  pub bare : is_in setting bared p ≡ true → (is_bared setting.size after reply p ≡ true) × (is_in setting carried p ≡ false)
  pub lost : is_bared setting.size after reply p ≡ true → (is_in setting bared p ≡ true) ⊎ (is_none ((layout_of_table setting.size before).owner p) ≡ true)

-- a sweep that carries and then one that fills with the backdrop change the scene, where the regions are what the step asks
abbrev pub ChangeLaw : Type 0
ChangeLaw = (setting : Setting) (before after : Table) (command : Command) (reply : Reply) (falling : Bool) (by : ℕ) (carried bared : List Rect) (first second : List Item)
    → Sweeps setting.size carried (Carry falling by) first → Sweeps setting.size bared (Fill setting.backdrop) second
    → ((p : ℕ) → p < pixel_count setting.size → IsAsked setting before after command reply falling by carried bared p)
    → ChangesScene setting before after command reply (first ++ second)

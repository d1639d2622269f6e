-- What redrawing the framebuffer adds to the log of a server turn.
use Rattle.std.specs.Prelude.{◌≡◌, ℕ, ◌<◌, Bool, List, [], ◌++◌}
use Rattle.qws_base.specs.Points.{pixel_count}
use Rattle.qws_base.specs.Scenes.{Setting}
use Rattle.qws_base.specs.Shown.{IsShape}
use Rattle.qws_base.specs.declared.points.Rect.{Rect}
use Rattle.qws_base.specs.declared.windows.Cursor.{Cursor}
use Rattle.qws_base.specs.declared.commands.Command.{Command}
use Rattle.qws_base.specs.declared.replies.Reply.{Reply}
use Rattle.region_table.specs.declared.tables.Table.{Table}
use Rattle.turn_logs.specs.declared.items.Item.{Item}
use Rattle.turn_logs.specs.Carries.{CarriesStep}
use Rattle.turn_logs.specs.Phases.{lift_items, drop_items, IsTrueLog}
use Rattle.scene_turns.specs.declared.works.Work.TheVariants.{Fill, Carry}
use Rattle.scene_turns.specs.Sweeps.{Sweeps}
use Rattle.scene_turns.specs.Changes.{IsAsked}

-- The one cursor was lifted off, the pixels of a region were carried and those of another filled, and the other cursor was put
-- down, with what was found under each.
pub record Redraws (setting : Setting) (old new : Cursor) (falling : Bool) (by : ℕ) (carried bared : List Rect) (backdrop : ℕ) (before after : List Item) : Type 0 where
  pub lifted : ℕ → ℕ
  pub moved : List Item
  pub filled : List Item
  pub dropped : ℕ → ℕ
  pub log : after ≡ before ++ (lift_items setting.size old lifted ++ ((moved ++ filled) ++ drop_items setting.depth setting.size new dropped))
  pub carries : Sweeps setting.size carried (Carry falling by) moved
  pub fills : Sweeps setting.size bared (Fill backdrop) filled

-- a true log of a turn that redraws with the backdrop, where the regions are what the step asks, carries the step
abbrev pub RedrawnLaw : Type 0
RedrawnLaw = (setting : Setting) (before after : Table) (command : Command) (reply : Reply) (falling : Bool) (by : ℕ) (carried bared : List Rect) (log : List Item)
    → IsShape before.cursor → IsShape after.cursor
    → ((p : ℕ) → p < pixel_count setting.size → IsAsked setting before after command reply falling by carried bared p)
    → Redraws setting before.cursor after.cursor falling by carried bared setting.backdrop [] log → IsTrueLog log → CarriesStep setting before after command reply log

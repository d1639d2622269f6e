-- What an accepted step asks of the regions that it changes.
use Rattle.std.specs.Prelude.{◌≡◌, ℕ, ◌<◌, Bool, false, List}
use Rattle.qws_base.specs.Points.{any_holds, pixel_count}
use Rattle.qws_base.specs.Scenes.{Setting}
use Rattle.qws_base.specs.States.{State, is_refused, moved_slot}
use Rattle.qws_base.specs.declared.points.Point.{Point}
use Rattle.qws_base.specs.declared.points.Rect.{Rect}
use Rattle.qws_base.specs.declared.commands.Command.{Command}
use Rattle.qws_base.specs.declared.replies.Reply.{Reply}
use Rattle.region_table.specs.Published.{IsTableOf, AreSlotted}
use Rattle.region_table.specs.declared.tables.Table.{Table}
use Rattle.scene_turns.specs.Changes.{IsAsked}
use Rattle.step_regions.specs.Bared.{is_lost}
use Rattle.step_regions.specs.Carried.{CarriesFor}

-- the carried and the lost pixels are what an accepted command asks, as the tables of the states before and after it tell
abbrev pub AskedLaw : Type 0
AskedLaw = (setting : Setting) (old new : State) (n m : ℕ) (before after : Table) (command : Command) (reply : Reply) (falling : Bool) (by : ℕ) (carried bared : List Rect)
    → IsTableOf setting.size old n before → IsTableOf setting.size new m after → AreSlotted old.windows → AreSlotted new.windows → is_refused reply ≡ false
    → CarriesFor setting.size old.windows new.windows (moved_slot command) carried falling by → ((p : Point) → any_holds bared p ≡ is_lost setting.size old.windows new.windows p)
    → (p : ℕ) → p < pixel_count setting.size → IsAsked setting before after command reply falling by carried bared p

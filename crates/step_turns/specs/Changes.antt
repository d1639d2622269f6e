-- What a planned step changes on the framebuffer, and what its turn changes of the server.
use Rattle.std.specs.Prelude.{◌≡◌, ℕ, ◌<◌, Bool, true, false, All, List, Some}
use Rattle.qws_base.specs.Sides.{Sides}
use Rattle.qws_base.specs.Points.{any_holds, point_of, pixel_count}
use Rattle.qws_base.specs.RectPixels.{IsWithin}
use Rattle.qws_base.specs.States.{State}
use Rattle.qws_base.specs.Steps.{step}
use Rattle.qws_base.specs.declared.points.Point.{Point}
use Rattle.qws_base.specs.declared.points.Rect.{Rect}
use Rattle.qws_base.specs.declared.windows.Cursor.{Cursor}
use Rattle.qws_base.specs.declared.commands.Command.{Command}
use Rattle.qws_base.specs.declared.commands.Command.TheVariants.{Create, Destroy, Region, Move, Raise, Lower, CursorShape, CursorMove, CursorShow, Join, Leave, Send, Take, IsRegistered}
use Rattle.window_core.specs.CoreViews.{CoreView, PlanView}
use Rattle.step_regions.specs.Bared.{is_lost}
use Rattle.step_regions.specs.Carried.{CarriesFor, slot_carried, source}
use Rattle.turn_logs.specs.Carries.{ShownCell, shown_cell}
use Rattle.fb_words.specs.Views.{HeadView}
use Rattle.step_regions.specs.declared.moves.CarriedPixels.{CarriedPixels}
use Rattle.step_turns.specs.declared.changed.Changes.{Changes}

-- a command on the cursor: no other changes it
abbrev pub is_on_cursor : Command → Bool
is_on_cursor (Create layer) = false
is_on_cursor (Destroy slot) = false
is_on_cursor (Region slot origin rects) = false
is_on_cursor (Move slot origin) = false
is_on_cursor (Raise slot) = false
is_on_cursor (Lower slot) = false
is_on_cursor (CursorShape w h cells) = true
is_on_cursor (CursorMove x y) = true
is_on_cursor (CursorShow shown) = true
is_on_cursor (Join channel) = false
is_on_cursor (Leave channel) = false
is_on_cursor (Send channel message payload) = false
is_on_cursor Take = false
is_on_cursor (IsRegistered channel) = false

-- no cell of the shown cursor lies on a pixel that is carried or filled, nor on one from which a pixel is carried
abbrev pub IsClear : Sides → Cursor → CarriedPixels → List Rect → Type 0
IsClear size cursor carried bared = (p : ℕ) (cell : ShownCell) → p < pixel_count size → shown_cell size cursor p ≡ Some cell
    → (any_holds carried.region (point_of size.w p) ≡ false) × (any_holds bared (point_of size.w p) ≡ false)
    × ((q : ℕ) → q < pixel_count size → any_holds carried.region (point_of size.w q) ≡ true → source carried.falling carried.by q ≡ p → ⊥)

-- the pixels that a move carries; those that lose their last owner; whether the cursor is another, and whether it lies on one of them
pub record AreChangesOf (core : CoreView) (plan : PlanView) (changes : Changes) : Type 0 where
  pub carried : CarriesFor core.size core.state.windows plan.windows (slot_carried plan) changes.carried.region changes.carried.falling changes.carried.by
  pub bared : (p : Point) → any_holds changes.bared p ≡ is_lost core.size core.state.windows plan.windows p
  pub on_screen : All (IsWithin core.size) changes.bared
  pub same_cursor : changes.points ≡ false → plan.cursor ≡ core.state.cursor
  pub other_cursor : changes.points ≡ true → plan.cursor ≡ core.state.cursor → ⊥
  pub clear : changes.covered ≡ false → IsClear core.size core.state.cursor changes.carried changes.bared
  pub covered : changes.covered ≡ true → IsClear core.size core.state.cursor changes.carried changes.bared → ⊥

-- the state after a plan's step
abbrev pub state_planned : CoreView → PlanView → State
state_planned core plan = (step core.size core.state plan.client plan.command).0

-- nothing but the present table and the log has changed
abbrev pub OnlyTurn : HeadView → HeadView → Type 0
OnlyTurn h h' = h' ≡ record h { server = record h.server { present = h'.server.present; log = h'.server.log } }

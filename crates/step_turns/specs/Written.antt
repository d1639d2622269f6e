-- What a turn of a planned step does to the framebuffer and to the published table.
use Rattle.std.specs.Prelude.{◌≡◌, ℕ, ◌⊎◌, List, [], ◌++◌}
use Rattle.qws_base.specs.Sides.{Sides}
use Rattle.qws_base.specs.Scenes.{Setting}
use Rattle.qws_base.specs.declared.points.Rect.{Rect}
use Rattle.qws_base.specs.declared.windows.Cursor.{Cursor}
use Rattle.region_table.specs.Numbers.{stamp_at}
use Rattle.turn_logs.specs.declared.items.Item.{Item}
use Rattle.turn_logs.specs.Phases.{IsTrueLog, IsAway}
use Rattle.window_core.specs.CoreViews.{CoreView, PlanView}
use Rattle.table_turns.specs.Writes.{Sets}
use Rattle.scene_turns.specs.declared.works.Work.TheVariants.{Fill, Carry}
use Rattle.scene_turns.specs.Sweeps.{Sweeps, AddsSweep}
use Rattle.step_regions.specs.declared.moves.CarriedPixels.{CarriedPixels}
use Rattle.desk_turns.specs.Cursors.{Respells}
use Rattle.desk_turns.specs.Redraws.{Redraws}
use Rattle.desk_turns.specs.Rows.{WritesRows}
use Rattle.step_turns.specs.declared.changed.Changes.{Changes}
use Rattle.step_turns.specs.Changes.{IsClear}

-- the step has nothing to draw: the cursor isn't another, and no row is, or no pixel is carried or filled
pub record IsStill (old : Cursor) (plan : PlanView) (changes : Changes) : Type 0 where
  pub cursor : plan.cursor ≡ old
  pub pixels : (plan.risen ≡ []) ⊎ ((changes.carried.region ≡ []) × (changes.bared ≡ []))

-- the log goes on by a sweep that carries pixels, and then by one that fills others
pub record SweepsBoth (size : Sides) (carried : CarriedPixels) (bared : List Rect) (backdrop : ℕ) (before after : List Item) : Type 0 where
  pub middle : List Item
  pub carries : AddsSweep size carried.region (Carry carried.falling carried.by) before middle
  pub fills : AddsSweep size bared (Fill backdrop) middle after

-- the cursor stays, clear of what is written and copied: pixels are carried and others filled, and that is all
pub record SweepsClear (setting : Setting) (old : Cursor) (plan : PlanView) (changes : Changes) (log : List Item) : Type 0 where
  pub cursor : plan.cursor ≡ old
  pub clear : IsClear setting.size old changes.carried changes.bared
  pub moved : List Item
  pub filled : List Item
  pub log_is : log ≡ moved ++ filled
  pub carries : Sweeps setting.size changes.carried.region (Carry changes.carried.falling changes.carried.by) moved
  pub fills : Sweeps setting.size changes.bared (Fill setting.backdrop) filled

-- the framebuffer is redrawn by a true log, or swept clear of the cursor; or, where nothing is to be drawn, the log is empty
abbrev pub Draws : Setting → Cursor → PlanView → Changes → List Item → Type 0
Draws setting old plan changes log =
    (Redraws setting old plan.cursor changes.carried.falling changes.carried.by changes.carried.region changes.bared setting.backdrop [] log × IsTrueLog log)
    ⊎ (SweepsClear setting old plan changes log ⊎ ((log ≡ []) × IsStill old plan changes))

-- the log goes on after the items before
pub record GoesOn (before after : List Item) : Type 0 where
  pub added : List Item
  pub log : after ≡ before ++ added

-- the log goes on after the items before, by items on no word of a cell of the shown cursor, nor of a pixel under one
pub record LeavesCells (size : Sides) (cursor : Cursor) (before after : List Item) : Type 0 where
  pub added : List Item
  pub log : after ≡ before ++ added
  pub away : IsAway size cursor added

-- the log goes on after the items before, by which nothing is put, and the framebuffer is redrawn by what is added
pub record DrawsOn (setting : Setting) (old : Cursor) (plan : PlanView) (changes : Changes) (before after : List Item) : Type 0 where
  pub added : List Item
  pub log : after ≡ before ++ added
  pub draws : Draws setting old plan changes added
  pub true_log : IsTrueLog after

-- the rows of the slots whose revision rises are written, then the words of the cursor that differ, and then the stamp;
-- where there is no such slot, or no other cursor, those words stay
pub record WritesTable (core : CoreView) (plan : PlanView) (number : ℕ) (before after : List ℕ) : Type 0 where
  pub with_rows : List ℕ
  pub with_cursor : List ℕ
  pub rows : WritesRows plan plan.risen before with_rows
  pub cursor : Respells core.state.cursor plan.cursor with_rows with_cursor
  pub stamp : Sets stamp_at 1 (λ k. number) with_cursor after
  pub same_rows : plan.risen ≡ [] → with_rows ≡ before
  pub same_cursor : plan.cursor ≡ core.state.cursor → with_cursor ≡ with_rows

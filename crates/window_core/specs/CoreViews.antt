-- What a core and a plan are seen as, and when a plan belongs to a state.
use Rattle.std.specs.Prelude.{ℕ, ◌≡◌, ◌<◌, ◌≤◌, ◌^◌, ◌-◌, List, length, All}
use Rattle.std.specs.List.{filter}
use Rattle.qws_base.specs.Sides.{Sides}
use Rattle.qws_base.specs.States.{State, revision_of}
use Rattle.qws_base.specs.Stacking.{slots}
use Rattle.qws_base.specs.Shown.{IsShape}
use Rattle.qws_base.specs.Arranged.{IsArranged}
use Rattle.qws_base.specs.Steps.{step, is_changed}
use Rattle.qws_base.specs.declared.windows.WindowView.{WindowView}
use Rattle.qws_base.specs.declared.windows.Cursor.{Cursor}
use Rattle.qws_base.specs.declared.commands.Command.{Command}
use Rattle.qws_base.specs.declared.replies.Reply.{Reply}
use Rattle.window_core.specs.declared.changes.MailChange.{MailChange}
use Rattle.window_core.specs.Changes.{CanCarry, mail_after}

-- the size of the screen, its backdrop as a colour, and the state
pub record CoreView : Type 0 where
  pub size : Sides
  pub backdrop : ℕ
  pub state : State

-- A client's command with the reply to it, on a screen of that size; the windows, the revisions and the cursor after it, which are the present ones
-- where it is refused; the slots whose revision rises; and what it does to channels and mailboxes.
pub record PlanView : Type 0 where
  pub client : ℕ
  pub size : Sides
  pub command : Command
  pub reply : Reply
  pub windows : List WindowView
  pub revisions : List ℕ
  pub risen : List ℕ
  pub cursor : Cursor
  pub change : MailChange

-- a plan belongs to the state that it was made from: it has the step of its command there
pub record Belongs (size : Sides) (plan : PlanView) (state : State) : Type 0 where
  pub screen : plan.size ≡ size
  pub reply : plan.reply ≡ (step size state plan.client plan.command).1
  pub windows : plan.windows ≡ (step size state plan.client plan.command).0.windows
  pub revisions : plan.revisions ≡ (step size state plan.client plan.command).0.revisions
  pub risen : plan.risen ≡ filter (is_changed size state.windows plan.windows) slots
  pub cursor : plan.cursor ≡ (step size state plan.client plan.command).0.cursor
  pub can : CanCarry state.mail plan.change
  pub mail : mail_after state.windows plan.windows plan.change state.mail ≡ (step size state plan.client plan.command).0.mail

-- the cursor's place is a pixel of the screen, and its sides and cells are those of a shape
pub record IsCursorOn (size : Sides) (cursor : Cursor) : Type 0 where
  pub in_columns : cursor.x < size.w
  pub in_rows : cursor.y < size.h
  pub shape : IsShape cursor

-- what holds of each state that a server comes to with the clients 0 to 15
pub record IsServed (size : Sides) (state : State) : Type 0 where
  pub windows : IsArranged size state.windows
  pub owners : All (λ w. w.owner < 16) state.windows
  pub cursor : IsCursorOn size state.cursor
  pub slots : length state.revisions ≡ 32
  pub revisions : (slot : ℕ) → slot < 32 → 1 ≤ revision_of state slot

-- no revision is the last
abbrev pub CanRise : State → Type 0
CanRise state = (slot : ℕ) → slot < 32 → revision_of state slot < 2 ^ 64 - 1

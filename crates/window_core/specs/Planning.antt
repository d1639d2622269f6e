-- What holds of a plan while it is made, over what a core holds.
use Rattle.std.specs.Prelude.{ℕ, ◌≡◌, ◌⊎◌, List, [], map, Option, Some, None}
use Rattle.std.specs.List.{filter}
use Rattle.std.specs.Arc.{arc_value}
use Rattle.qws_base.specs.Sides.{Sides}
use Rattle.qws_base.specs.States.{State}
use Rattle.qws_base.specs.Stacking.{slots}
use Rattle.qws_base.specs.Refusals.{too_complex}
use Rattle.qws_base.specs.Steps.{risen, is_changed, is_modified}
use Rattle.qws_base.specs.declared.replies.Reply.{Reply}
use Rattle.qws_base.specs.declared.replies.Reply.TheVariants.{Done, Refused}
use Rattle.qws_base.specs.declared.replies.Refusal.{Refusal}
use Rattle.qws_base.specs.declared.commands.Command.{Command}
use Rattle.window_core.specs.declared.held.Held.{Held}
use Rattle.window_core.specs.declared.held.Planned.{Planned}
use Rattle.window_core.specs.declared.changes.MailChange.{MailChange}
use Rattle.window_core.specs.declared.changes.MailChange.TheVariants.{Nothing, Join, Leave, Send, Take, Regions}
use Rattle.window_arrangements.specs.Arrangements.{ArrangementView}
use Rattle.window_core.specs.CoreViews.{PlanView, Belongs}

-- the size of the screen
abbrev pub size_of : Held → Sides
size_of held = (arc_value held.arrangement).size

-- the state that is held
abbrev pub state_of : Held → State
state_of held = record { windows = (arc_value held.arrangement).windows; cursor = arc_value held.cursor; mail = held.channels; revisions = held.revisions }

-- the plan of a client's command
abbrev pub plan_of : ℕ → Command → Planned → PlanView
plan_of client command p = record {
  client = client;
  size = (arc_value p.arrangement).size;
  command = command;
  reply = p.reply;
  windows = (arc_value p.arrangement).windows;
  revisions = p.revisions;
  risen = p.risen.items;
  cursor = arc_value p.cursor;
  change = p.change;
}

-- the plan has the step of the command
abbrev pub IsPlanned : Held → ℕ → Command → Planned → Type 0
IsPlanned held client command p = Belongs (size_of held) (plan_of client command p) (state_of held)

-- owners are told of these slots, and the window of a slot goes
abbrev pub AreTold : Option ℕ → List ℕ → MailChange → Type 0
AreTold leaving told Nothing = ⊥
AreTold leaving told (Join join) = ⊥
AreTold leaving told (Leave client channel) = ⊥
AreTold leaving told (Send send) = ⊥
AreTold leaving told (Take client) = ⊥
AreTold leaving told (Regions slot events) = (slot ≡ leaving) × (events.items ≡ told)

-- a plan with this reply and this change of mail that leaves windows and cursor
pub record Keeps (held : Held) (told : Reply) (made : MailChange) (p : Planned) : Type 0 where
  pub reply : p.reply ≡ told
  pub change : p.change ≡ made
  pub windows : arc_value p.arrangement ≡ arc_value held.arrangement
  pub revisions : p.revisions ≡ held.revisions
  pub risen : p.risen.items ≡ []
  pub cursor : arc_value p.cursor ≡ arc_value held.cursor

-- a plan with this reply that leaves these windows, with the slot of a window that goes
pub record Arranges (held : Held) (answered : Reply) (after : ArrangementView) (leaving : Option ℕ) (p : Planned) : Type 0 where
  pub reply : p.reply ≡ answered
  pub windows : arc_value p.arrangement ≡ after
  pub revisions : p.revisions ≡ map (risen (size_of held) (state_of held) after.windows) slots
  pub risen : p.risen.items ≡ filter (is_changed (size_of held) (state_of held).windows after.windows) slots
  pub cursor : arc_value p.cursor ≡ arc_value held.cursor
  pub told : AreTold leaving (filter (is_modified (size_of held) (state_of held).windows after.windows) slots) p.change

-- a plan that is refused where a slot would need too many rectangles with these windows, and leaves them else
abbrev pub IsOutcome : Held → ArrangementView → Option ℕ → Planned → Type 0
IsOutcome held after leaving p =
    ((cause : Refusal) × (too_complex (size_of held) after.windows ≡ Some cause) × Keeps held (Refused cause) Nothing p)
    ⊎ ((too_complex (size_of held) after.windows ≡ None) × Arranges held Done after leaving p)

-- a plan that is refused for a cause that is there
abbrev pub IsStopped : Held → Option Refusal → Planned → Type 0
IsStopped held None p = ⊥
IsStopped held (Some cause) p = Keeps held (Refused cause) Nothing p

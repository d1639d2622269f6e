-- Laws of a server's step.
use Rattle.std.specs.Prelude.{ℕ, ◌≡◌, ◌+◌, ◌<◌, ◌≤◌, ◌⊎◌, All, nat_eq, nat_le, is_none, Bool, true, false, not, ◌&&◌, List, ◌++◌, map, length, Some}
use Rattle.std.specs.List.{filter, list_any}
use Rattle.std.specs.Option.{option_eq}
use Rattle.qws_base.specs.Sides.{Sides}
use Rattle.qws_base.specs.Windows.{client_of_slot, origin_of, request_points, allocated_points}
use Rattle.qws_base.specs.States.{State, revision_of, is_refused}
use Rattle.qws_base.specs.Steps.{effect, is_modified, step}
use Rattle.qws_base.specs.Arranged.{IsArranged}
use Rattle.qws_base.specs.Mail.{mailbox_of, is_region_of}
use Rattle.qws_base.specs.Stacking.{slots, free_slot}
use Rattle.qws_base.specs.declared.replies.Event.{Event}
use Rattle.qws_base.specs.declared.replies.Event.TheVariants.{RegionModified}
use Rattle.qws_base.specs.declared.points.Point.{Point}
use Rattle.qws_base.specs.declared.windows.WindowView.{WindowView}
use Rattle.qws_base.specs.declared.commands.Command.{Command}
use Rattle.qws_base.specs.declared.commands.Command.TheVariants.{Create, Destroy, Region, Move, Raise, Lower, CursorShape, CursorMove, CursorShow, Join, Leave, Send, Take, IsRegistered}

-- a command on windows: of the others no effect reaches a window
abbrev pub is_on_windows : Command → Bool
is_on_windows (Create layer) = true
is_on_windows (Destroy slot) = true
is_on_windows (Region slot origin rects) = true
is_on_windows (Move slot origin) = true
is_on_windows (Raise slot) = true
is_on_windows (Lower slot) = true
is_on_windows (CursorShape w h cells) = false
is_on_windows (CursorMove x y) = false
is_on_windows (CursorShow shown) = false
is_on_windows (Join channel) = false
is_on_windows (Leave channel) = false
is_on_windows (Send channel message payload) = false
is_on_windows Take = false
is_on_windows (IsRegistered channel) = false

-- a refused command leaves the state as it is
abbrev pub RefusedLaw : Type 0
RefusedLaw = (size : Sides) (state : State) (client : ℕ) (command : Command) → is_refused (step size state client command).1 ≡ true → (step size state client command).0 ≡ state

-- the slot has the owner, the origin and the pixels that it had
pub record IsAsBefore (size : Sides) (before after : List WindowView) (slot : ℕ) : Type 0 where
  pub owner : client_of_slot before slot ≡ client_of_slot after slot
  pub origin : origin_of before slot ≡ origin_of after slot
  pub pixels : (p : Point) → allocated_points size before slot p ≡ allocated_points size after slot p

pub record RevisionLaw : Type 0 where
  -- after an accepted command the revision of a slot that is as before is the same, and of any other slot one more
  pub exact : (size : Sides) (state : State) (client : ℕ) (command : Command) (slot : ℕ) → slot < 32 → is_refused (step size state client command).1 ≡ false
      → let after : State = (step size state client command).0 in
      (IsAsBefore size state.windows after.windows slot × (revision_of after slot ≡ revision_of state slot))
      ⊎ ((IsAsBefore size state.windows after.windows slot → ⊥) × (revision_of after slot ≡ revision_of state slot + 1))
  -- no step lowers a revision
  pub rises : (size : Sides) (state : State) (client : ℕ) (command : Command) (slot : ℕ) → slot < 32 → revision_of state slot ≤ revision_of (step size state client command).0 slot

-- a command on the cursor, channels or mailboxes leaves the windows, and with them all allocated pixels, and each revision
pub record OtherLaw : Type 0 where
  pub windows : (size : Sides) (state : State) (client : ℕ) (command : Command) → is_on_windows command ≡ false → (step size state client command).0.windows ≡ state.windows
  pub revisions : (size : Sides) (state : State) (client : ℕ) (command : Command) (slot : ℕ) → slot < 32 → is_on_windows command ≡ false
      → revision_of (step size state client command).0 slot ≡ revision_of state slot

-- no point is allocated to two slots
abbrev pub OneOwnerLaw : Type 0
OneOwnerLaw = (size : Sides) (windows : List WindowView) (i j : ℕ) (p : Point) → allocated_points size windows i p ≡ true → allocated_points size windows j p ≡ true → i ≡ j

-- each pixel of a window's request on the screen is allocated to a slot, and no other point is
abbrev pub AllAllocatedLaw : Type 0
AllAllocatedLaw = (size : Sides) (windows : List WindowView) → All (λ w. w.slot < 32) windows → (p : Point)
    → list_any (λ slot. allocated_points size windows slot p) slots ≡ list_any (λ w. request_points size w p) windows

-- RegionModified of the slot is due to the client, whose mailbox is this one: the client's window has the slot, its pixels
-- are others than before, and the mailbox holds no such event
abbrev pub is_due : Sides → List WindowView → List WindowView → ℕ → List Event → ℕ → Bool
is_due size before after client box slot =
    is_modified size before after slot && (option_eq nat_eq (client_of_slot after slot) (Some client) && not (list_any (is_region_of slot) box))

-- an accepted command puts at the end of each mailbox, as its own effect left that, RegionModified of the slots for which
-- it is due, in ascending order
abbrev pub ToldLaw : Type 0
ToldLaw = (size : Sides) (state : State) (client : ℕ) (command : Command) (other : ℕ) → is_refused (step size state client command).1 ≡ false
    → other < length (effect state client command).mail.mailboxes
    → let box : List Event = mailbox_of (effect state client command).mail.mailboxes other in
    let after : State = (step size state client command).0 in
    mailbox_of after.mail.mailboxes other ≡ box ++ map (λ slot. RegionModified slot) (filter (is_due size state.windows after.windows other box) slots)

-- with arranged windows no slot is free exactly where 32 windows are live
abbrev pub NoSlotLaw : Type 0
NoSlotLaw = (size : Sides) (windows : List WindowView) → IsArranged size windows → is_none (free_slot windows) ≡ nat_le 32 (length windows)

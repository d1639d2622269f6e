-- The step of a command: what is answered, what it does, and what follows.
use Rattle.std.specs.Prelude.{ℕ, ◌+◌, nat_eq, nat_abs, Bool, not, ◌&&◌, ◌||◌, List, [], ◌∷◌, map, Option, if◌then◌else◌}
use Rattle.std.specs.List.{fold, filter}
use Rattle.std.specs.Option.{option_map_or, option_eq}
use Rattle.std.specs.Ordering.{int_eq}
use Rattle.qws_base.specs.Sides.{Sides}
use Rattle.qws_base.specs.Regions.{same_pixels}
use Rattle.qws_base.specs.Windows.{client_of_slot, origin_of, allocated_points}
use Rattle.qws_base.specs.Mail.{Mail, is_known, mail_joined, mail_left, mail_sent, mail_taken, mail_noted, mail_forgotten, receiver_count, oldest_event}
use Rattle.qws_base.specs.States.{State, revision_of, is_refused}
use Rattle.qws_base.specs.Stacking.{slots, free_slot, windows_created, windows_without, with_region, with_origin, windows_raised, windows_lowered}
use Rattle.qws_base.specs.Refusals.{first_of, no_window, not_yours, bad_layer, bad_region, bad_shape, off_screen, off_pixels, too_complex, bad_name, already_joined, too_many_channels, not_joined, too_large, no_channel, mailbox_full}
use Rattle.qws_base.specs.declared.points.Point.{Point}
use Rattle.qws_base.specs.declared.windows.WindowView.{WindowView}
use Rattle.qws_base.specs.declared.commands.Command.{Command}
use Rattle.qws_base.specs.declared.commands.Command.TheVariants.{Create, Destroy, Region, Move, Raise, Lower, CursorShape, CursorMove, CursorShow, Join, Leave, Send, Take, IsRegistered}
use Rattle.qws_base.specs.declared.replies.Reply.{Reply}
use Rattle.qws_base.specs.declared.replies.Reply.TheVariants.{Created, Done, Sent, Registered, Event, Refused}
use Rattle.qws_base.specs.declared.replies.Refusal.{Refusal}
use Rattle.qws_base.specs.declared.replies.Refusal.TheVariants.{NoSlot, Empty}

-- ---- the table of the commands

-- the event of the slot leaves the mailbox of the owner of its window
abbrev pub owner_forgets : State → ℕ → Mail
owner_forgets state slot = option_map_or (λ owner. mail_forgotten state.mail owner slot) (client_of_slot state.windows slot) state.mail

-- the command's own effect, where it is accepted
abbrev pub effect : State → ℕ → Command → State
effect state client (Create layer) = record state { windows = windows_created client layer state.windows }
effect state client (Destroy slot) = record state { windows = windows_without slot state.windows; mail = owner_forgets state slot }
effect state client (Region slot origin rects) = record state { windows = map (with_region slot origin rects) state.windows }
effect state client (Move slot origin) = record state { windows = map (with_origin slot origin) state.windows }
effect state client (Raise slot) = record state { windows = windows_raised slot state.windows }
effect state client (Lower slot) = record state { windows = windows_lowered slot state.windows }
effect state client (CursorShape w h cells) = record state { cursor = record state.cursor { w = w; h = h; cells = cells } }
effect state client (CursorMove x y) = record state { cursor = record state.cursor { x = nat_abs x; y = nat_abs y } }
effect state client (CursorShow shown) = record state { cursor = record state.cursor { shown = shown } }
effect state client (Join channel) = record state { mail = mail_joined state.mail client channel }
effect state client (Leave channel) = record state { mail = mail_left state.mail client channel }
effect state client (Send channel message payload) = record state { mail = mail_sent state.mail client channel message payload }
effect state client Take = record state { mail = mail_taken state.mail client }
effect state client (IsRegistered channel) = state

-- with the windows that the command leaves, a slot needs more than 256 rectangles
abbrev pub leaves_complex : Sides → State → ℕ → Command → Option Refusal
leaves_complex size state client command = too_complex size (effect state client command).windows

-- refused for the first of the causes that is there; where none is, the reply
abbrev pub unless : List (Option Refusal) → Reply → Reply
unless causes reply = option_map_or (λ cause. Refused cause) (first_of causes) reply

-- the reply that tells what is there; where nothing is, refused for that cause
abbrev pub found_or : {X : Type 0} → Refusal → (X → Reply) → Option X → Reply
found_or cause told found = option_map_or told found (Refused cause)

-- what a command is answered: its refusals in their order, and the reply where it is accepted
abbrev pub answer : Sides → State → ℕ → Command → Reply
answer size state client (Create layer) = unless (bad_layer layer ∷ []) (found_or NoSlot (λ slot. Created slot) (free_slot state.windows))
answer size state client (Destroy slot) =
    unless (no_window state.windows slot ∷ not_yours state.windows client slot ∷ leaves_complex size state client (Destroy slot) ∷ []) Done
answer size state client (Region slot origin rects) =
    unless (off_screen origin ∷ bad_region rects ∷ no_window state.windows slot ∷ not_yours state.windows client slot ∷ leaves_complex size state client (Region slot origin rects) ∷ []) Done
answer size state client (Move slot origin) =
    unless (off_screen origin ∷ no_window state.windows slot ∷ not_yours state.windows client slot ∷ leaves_complex size state client (Move slot origin) ∷ []) Done
answer size state client (Raise slot) =
    unless (no_window state.windows slot ∷ not_yours state.windows client slot ∷ leaves_complex size state client (Raise slot) ∷ []) Done
answer size state client (Lower slot) =
    unless (no_window state.windows slot ∷ not_yours state.windows client slot ∷ leaves_complex size state client (Lower slot) ∷ []) Done
answer size state client (CursorShape w h cells) = unless (bad_shape w h cells ∷ []) Done
answer size state client (CursorMove x y) = unless (off_pixels size (record { x = x; y = y }) ∷ []) Done
answer size state client (CursorShow shown) = Done
answer size state client (Join channel) = unless (bad_name channel ∷ already_joined state.mail client channel ∷ too_many_channels state.mail channel ∷ []) Done
answer size state client (Leave channel) = unless (not_joined state.mail client channel ∷ []) Done
answer size state client (Send channel message payload) =
    unless (bad_name message ∷ too_large payload ∷ no_channel state.mail channel ∷ mailbox_full state.mail channel ∷ []) (Sent (receiver_count state.mail channel))
answer size state client Take = found_or Empty (λ event. Event event) (oldest_event state.mail client)
answer size state client (IsRegistered channel) = Registered (is_known state.mail.channels channel)

-- ---- what follows each accepted command

-- the slot has other pixels than before
abbrev pub is_modified : Sides → List WindowView → List WindowView → ℕ → Bool
is_modified size before after slot = not (same_pixels size (allocated_points size before slot) (allocated_points size after slot))

abbrev pub same_point : Point → Point → Bool
same_point p q = int_eq p.x q.x && int_eq p.y q.y

-- the slot has another owner, another origin or other pixels than before
abbrev pub is_changed : Sides → List WindowView → List WindowView → ℕ → Bool
is_changed size before after slot =
    not (option_eq nat_eq (client_of_slot before slot) (client_of_slot after slot))
    || not (same_point (origin_of before slot) (origin_of after slot))
    || is_modified size before after slot

-- the revision of a slot, one more where the slot changed
abbrev pub risen : Sides → State → List WindowView → ℕ → ℕ
risen size before after slot = if is_changed size before.windows after slot then revision_of before slot + 1 else revision_of before slot

-- the event of the slot at the end of the mailbox of its window's owner, unless that holds one; nothing for a slot without one
abbrev pub owner_told : List WindowView → Mail → ℕ → Mail
owner_told windows mail slot = option_map_or (λ owner. mail_noted mail owner slot) (client_of_slot windows slot) mail

-- the state after the effect of a command, with the revisions of the slots that changed risen, and the owners of the
-- windows that have other pixels told, in ascending order of their slots
abbrev pub completed : Sides → State → State → State
completed size before after = record after {
  mail = fold (owner_told after.windows) after.mail (filter (is_modified size before.windows after.windows) slots);
  revisions = map (risen size before after.windows) slots;
}

-- ---- the step

-- The state after a command of a client, and the reply. A refused command leaves the state as it is.
abbrev pub step : Sides → State → ℕ → Command → State × Reply
step size state client command =
    (if is_refused (answer size state client command) then state else completed size state (effect state client command), answer size state client command)

-- Commands on a client's own window.
use Rattle.std.specs.Prelude.{◌≡◌, ℕ, List, [], ◌∷◌, Option, Some, None}
use Rattle.qws_base.specs.Sides.{Sides}
use Rattle.qws_base.specs.Windows.{client_of_slot}
use Rattle.qws_base.specs.States.{State}
use Rattle.qws_base.specs.Refusals.{first_of, off_screen, bad_region}
use Rattle.qws_base.specs.Steps.{leaves_complex, step}
use Rattle.qws_base.specs.declared.commands.Command.{Command}
use Rattle.qws_base.specs.declared.commands.Command.TheVariants.{Create, Destroy, Region, Move, Raise, Lower, CursorShape, CursorMove, CursorShow, Join, Leave, Send, Take, IsRegistered}
use Rattle.qws_base.specs.declared.replies.Reply.TheVariants.{Done}
use Rattle.qws_base.specs.declared.replies.Refusal.{Refusal}

-- the slot whose window a command is on
abbrev pub slot_of : Command → Option ℕ
slot_of (Create layer) = None
slot_of (Destroy slot) = Some slot
slot_of (Region slot origin rects) = Some slot
slot_of (Move slot origin) = Some slot
slot_of (Raise slot) = Some slot
slot_of (Lower slot) = Some slot
slot_of (CursorShape w h cells) = None
slot_of (CursorMove x y) = None
slot_of (CursorShow shown) = None
slot_of (Join channel) = None
slot_of (Leave channel) = None
slot_of (Send channel message payload) = None
slot_of Take = None
slot_of (IsRegistered channel) = None

-- the limits that a command on a window is held to: on its origin, on its request, and on the number of rectangles of each slot
abbrev pub limits_of : Sides → State → ℕ → Command → List (Option Refusal)
limits_of size state client (Create layer) = []
limits_of size state client (Destroy slot) = leaves_complex size state client (Destroy slot) ∷ []
limits_of size state client (Region slot origin rects) = off_screen origin ∷ bad_region rects ∷ leaves_complex size state client (Region slot origin rects) ∷ []
limits_of size state client (Move slot origin) = off_screen origin ∷ leaves_complex size state client (Move slot origin) ∷ []
limits_of size state client (Raise slot) = leaves_complex size state client (Raise slot) ∷ []
limits_of size state client (Lower slot) = leaves_complex size state client (Lower slot) ∷ []
limits_of size state client (CursorShape w h cells) = []
limits_of size state client (CursorMove x y) = []
limits_of size state client (CursorShow shown) = []
limits_of size state client (Join channel) = []
limits_of size state client (Leave channel) = []
limits_of size state client (Send channel message payload) = []
limits_of size state client Take = []
limits_of size state client (IsRegistered channel) = []

-- a command on the client's own window, within these limits, is done
abbrev pub OwnWindowLaw : Type 0
OwnWindowLaw = (size : Sides) (state : State) (client slot : ℕ) (command : Command) → slot_of command ≡ Some slot → client_of_slot state.windows slot ≡ Some client
    → first_of (limits_of size state client command) ≡ None → (step size state client command).1 ≡ Done

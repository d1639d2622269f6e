-- Commands on a client's own window are done within the limits.
use Rattle.std.proofs.Common.{◌≡◌, ℕ, ◌==◌, if◌then◌else◌, Bool, true, false, not, ◌||◌, List, [], ◌∷◌, Option, Some, None, refl, ap, ◌∙◌, eq-eqb}
use Rattle.std.specs.List.{find, list_any}
use Rattle.std.specs.Option.{option_map, option_map_or, option_and_then}
use Rattle.qws_base.specs.Sides.{Sides}
use Rattle.qws_base.specs.Windows.{has_slot, is_live, client_of_slot}
use Rattle.qws_base.specs.States.{State}
use Rattle.qws_base.specs.Refusals.{first_of, no_window, not_yours, off_screen, bad_region}
use Rattle.qws_base.specs.Steps.{leaves_complex, unless, step}
use Rattle.qws_base.specs.declared.windows.WindowView.{WindowView}
use Rattle.qws_base.specs.declared.commands.Command.{Command}
use Rattle.qws_base.specs.declared.commands.Command.TheVariants.{Create, Destroy, Region, Move, Raise, Lower, CursorShape, CursorMove, CursorShow, Join, Leave, Send, Take, IsRegistered}
use Rattle.qws_base.specs.declared.replies.Reply.TheVariants.{Done, Refused}
use Rattle.qws_base.specs.declared.replies.Refusal.{Refusal}
use Rattle.qws_base.specs.declared.replies.Refusal.TheVariants.{NoWindow, NotYours}
use Rattle.server_desk.specs.OwnWindows.{slot_of, limits_of, OwnWindowLaw}

-- a slot with an owner is live
live : (slot client : ℕ) (ws : List WindowView) → client_of_slot ws slot ≡ Some client → is_live ws slot ≡ true
live slot client [] at = cc
live slot client (w ∷ ws) at = go (has_slot slot w) at (live slot client ws)
  where
    go : (b : Bool) → option_map (λ w. w.owner) (if b then Some w else find (has_slot slot) ws) ≡ Some client → (client_of_slot ws slot ≡ Some client → is_live ws slot ≡ true)
        → (b || list_any (has_slot slot) ws) ≡ true
    go true at rest = refl
    go false at rest = rest at

there_is : (slot client : ℕ) (ws : List WindowView) → client_of_slot ws slot ≡ Some client → no_window ws slot ≡ None
there_is slot client ws at = ap (λ b. if not b then Some (NoWindow slot) else None) (live slot client ws at)

own : (slot client : ℕ) (ws : List WindowView) → client_of_slot ws slot ≡ Some client → not_yours ws client slot ≡ None
own slot client ws at =
    ap (option_and_then (λ owner. if not (owner == client) then Some (NotYours slot owner) else None)) at
    ∙ ap (λ b. if not b then Some (NotYours slot client) else None) (eq-eqb client client refl)

-- causes that aren't there
skip_first : (a b : Option Refusal) (l : List (Option Refusal)) → a ≡ None → b ≡ None → first_of (a ∷ b ∷ l) ≡ first_of l
skip_first a b l no_a no_b = ap (λ x. first_of (x ∷ b ∷ l)) no_a ∙ ap (λ x. first_of (x ∷ l)) no_b

skip_second : (o a b : Option Refusal) (l : List (Option Refusal)) → a ≡ None → b ≡ None → first_of (o ∷ a ∷ b ∷ l) ≡ first_of (o ∷ l)
skip_second None a b l no_a no_b = skip_first a b l no_a no_b
skip_second (Some cause) a b l no_a no_b = refl

skip_third : (n o a b : Option Refusal) (l : List (Option Refusal)) → a ≡ None → b ≡ None → first_of (n ∷ o ∷ a ∷ b ∷ l) ≡ first_of (n ∷ o ∷ l)
skip_third None o a b l no_a no_b = skip_second o a b l no_a no_b
skip_third (Some cause) o a b l no_a no_b = refl

-- no cause is there
none_left : (causes limits : List (Option Refusal)) → first_of causes ≡ first_of limits → first_of limits ≡ None → unless causes Done ≡ Done
none_left causes limits same none = ap (λ o. option_map_or (λ cause. Refused cause) o Done) (same ∙ none)

module _ (size : Sides) (state : State) (client slot : ℕ) (at : client_of_slot state.windows slot ≡ Some client) where
  here : (other : ℕ) → Some other ≡ Some slot → client_of_slot state.windows other ≡ Some client
  here other is = ap (client_of_slot state.windows) (let z : other ≡ slot = cc in z) ∙ at

  done : (command : Command) → slot_of command ≡ Some slot → first_of (limits_of size state client command) ≡ None → (step size state client command).1 ≡ Done
  done (Create layer) is none = cc
  done (Destroy s) is none =
      none_left (no_window state.windows s ∷ not_yours state.windows client s ∷ leaves_complex size state client (Destroy s) ∷ []) (leaves_complex size state client (Destroy s) ∷ []) (skip_first (no_window state.windows s) (not_yours state.windows client s) (leaves_complex size state client (Destroy s) ∷ []) (there_is s client state.windows (here s is)) (own s client state.windows (here s is))) none
  done (Region s origin rects) is none =
      none_left (off_screen origin ∷ bad_region rects ∷ no_window state.windows s ∷ not_yours state.windows client s ∷ leaves_complex size state client (Region s origin rects) ∷ []) (off_screen origin ∷ bad_region rects ∷ leaves_complex size state client (Region s origin rects) ∷ []) (skip_third (off_screen origin) (bad_region rects) (no_window state.windows s) (not_yours state.windows client s) (leaves_complex size state client (Region s origin rects) ∷ []) (there_is s client state.windows (here s is)) (own s client state.windows (here s is))) none
  done (Move s origin) is none =
      none_left (off_screen origin ∷ no_window state.windows s ∷ not_yours state.windows client s ∷ leaves_complex size state client (Move s origin) ∷ []) (off_screen origin ∷ leaves_complex size state client (Move s origin) ∷ []) (skip_second (off_screen origin) (no_window state.windows s) (not_yours state.windows client s) (leaves_complex size state client (Move s origin) ∷ []) (there_is s client state.windows (here s is)) (own s client state.windows (here s is))) none
  done (Raise s) is none =
      none_left (no_window state.windows s ∷ not_yours state.windows client s ∷ leaves_complex size state client (Raise s) ∷ []) (leaves_complex size state client (Raise s) ∷ []) (skip_first (no_window state.windows s) (not_yours state.windows client s) (leaves_complex size state client (Raise s) ∷ []) (there_is s client state.windows (here s is)) (own s client state.windows (here s is))) none
  done (Lower s) is none =
      none_left (no_window state.windows s ∷ not_yours state.windows client s ∷ leaves_complex size state client (Lower s) ∷ []) (leaves_complex size state client (Lower s) ∷ []) (skip_first (no_window state.windows s) (not_yours state.windows client s) (leaves_complex size state client (Lower s) ∷ []) (there_is s client state.windows (here s is)) (own s client state.windows (here s is))) none
  done (CursorShape w h cells) is none = cc
  done (CursorMove x y) is none = cc
  done (CursorShow shown) is none = cc
  done (Join channel) is none = cc
  done (Leave channel) is none = cc
  done (Send channel message payload) is none = cc
  done Take is none = cc
  done (IsRegistered channel) is none = cc

pub own_window_law : OwnWindowLaw
own_window_law size state client slot command is at none = done size state client slot at command is none

-- Which lists of windows a server comes to.
use Rattle.std.specs.Prelude.{ℕ, ◌≡◌, ◌≢◌, ◌<◌, ◌≤◌, List, [], None, All, AllPairs}
use Rattle.qws_base.specs.Sides.{Sides}
use Rattle.qws_base.specs.States.{State}
use Rattle.qws_base.specs.Refusals.{off_screen, bad_region, rects_needed}
use Rattle.qws_base.specs.Steps.{step}
use Rattle.qws_base.specs.declared.windows.WindowView.{WindowView}
use Rattle.qws_base.specs.declared.commands.Command.{Command}

-- a window that commands can make: no cause refuses its origin or its rectangles
pub record IsWindow (w : WindowView) : Type 0 where
  pub slot : w.slot < 32
  pub layer : w.layer ≤ 1
  pub placed : off_screen w.origin ≡ None
  pub requested : bad_region w.rects ≡ None

-- each window has a slot of its own; layer 1 stands before layer 0; and no slot's pixels need more than 256 rectangles
pub record IsArranged (size : Sides) (windows : List WindowView) : Type 0 where
  pub each : All IsWindow windows
  pub once : AllPairs (λ v w. v.slot ≢ w.slot) windows
  pub layered : AllPairs (λ v w. w.layer ≤ v.layer) windows
  pub simple : (slot : ℕ) → slot < 32 → rects_needed size windows slot ≤ 256

-- the windows of the opening state are arranged, and each step leaves arranged windows so
pub record ArrangedLaw : Type 0 where
  pub opens : (size : Sides) → IsArranged size []
  pub stays : (size : Sides) (state : State) (client : ℕ) (command : Command) → IsArranged size state.windows → IsArranged size (step size state client command).0.windows

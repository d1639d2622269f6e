-- What a stack is seen as: windows from front to back, of which it knows the slot, the owner and the layer alone.
use Rattle.std.specs.Prelude.{ℕ, ◌≡◌, ◌≢◌, ◌≤◌, List, map, All, AllPairs}
use Rattle.qws_base.specs.Windows.{is_live, client_of_slot}
use Rattle.qws_base.specs.Stacking.{new_window, free_slot, windows_created, windows_without, windows_raised, windows_lowered, with_region, with_origin}
use Rattle.qws_base.specs.Arranged.{IsWindow}
use Rattle.qws_base.specs.declared.points.Point.{Point}
use Rattle.qws_base.specs.declared.points.Rect.{Rect}
use Rattle.qws_base.specs.declared.windows.WindowView.{WindowView}

-- the window as a stack knows it: at (0, 0), without rectangles
abbrev pub stacked : WindowView → WindowView
stacked w = new_window w.slot w.owner w.layer

-- the stack of a list of windows
abbrev pub stack_of : List WindowView → List WindowView
stack_of windows = map stacked windows

-- each window has a slot of its own, 0 to 31; and layer 1 stands before layer 0
pub record IsStack (stack : List WindowView) : Type 0 where
  pub each : All IsWindow stack
  pub once : AllPairs (λ v w. v.slot ≢ w.slot) stack
  pub layered : AllPairs (λ v w. w.layer ≤ v.layer) stack

-- what a command does to windows, it does to their stack; a new origin or new rectangles leave it; and the stack has the
-- slots and the clients of its windows
pub record StackLaw : Type 0 where
  pub created : (client layer : ℕ) (windows : List WindowView) → stack_of (windows_created client layer windows) ≡ windows_created client layer (stack_of windows)
  pub without : (slot : ℕ) (windows : List WindowView) → stack_of (windows_without slot windows) ≡ windows_without slot (stack_of windows)
  pub raised : (slot : ℕ) (windows : List WindowView) → stack_of (windows_raised slot windows) ≡ windows_raised slot (stack_of windows)
  pub lowered : (slot : ℕ) (windows : List WindowView) → stack_of (windows_lowered slot windows) ≡ windows_lowered slot (stack_of windows)
  pub region_set : (slot : ℕ) (origin : Point) (rects : List Rect) (windows : List WindowView) → stack_of (map (with_region slot origin rects) windows) ≡ stack_of windows
  pub origin_set : (slot : ℕ) (origin : Point) (windows : List WindowView) → stack_of (map (with_origin slot origin) windows) ≡ stack_of windows
  pub live : (windows : List WindowView) (slot : ℕ) → is_live (stack_of windows) slot ≡ is_live windows slot
  pub free : (windows : List WindowView) → free_slot (stack_of windows) ≡ free_slot windows
  pub client : (windows : List WindowView) (slot : ℕ) → client_of_slot (stack_of windows) slot ≡ client_of_slot windows slot

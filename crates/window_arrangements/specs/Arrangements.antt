-- What an arrangement is seen as, and what it keeps.
use Rattle.std.specs.Prelude.{ℕ, ◌≡◌, true, List, length, All}
use Rattle.qws_base.specs.Sides.{Sides}
use Rattle.qws_base.specs.Points.{any_holds, is_on_screen}
use Rattle.qws_base.specs.Windows.{covers, has_slot}
use Rattle.qws_base.specs.Stacking.{windows_without}
use Rattle.qws_base.specs.declared.points.Point.{Point}
use Rattle.qws_base.specs.declared.points.Rect.{Rect}
use Rattle.qws_base.specs.declared.windows.WindowView.{WindowView}
use Rattle.window_stack.specs.Stacks.{stack_of}
use Rattle.region_alloc.specs.Allocations.{windows_asking, IsAllocation, AreRequestsOf}

-- windows from front to back, on a screen of that size
pub record ArrangementView : Type 0 where
  pub size : Sides
  pub windows : List WindowView

-- the stack is that of the windows; each slot has a request, which is its window's; and the regions share them out
pub record IsKeptFor (size : Sides) (windows stack : List WindowView) (requests regions : List (List Rect)) : Type 0 where
  pub stacked : stack ≡ stack_of windows
  pub count : length requests ≡ 32
  pub asked : AreRequestsOf size windows requests
  pub shared : IsAllocation size (windows_asking requests stack) regions

-- the request holds the points of the screen that the window of the slot covers
abbrev pub IsRequestOf : Sides → ℕ → List WindowView → List Rect → Type 0
IsRequestOf size slot windows request = All (λ w. has_slot slot w ≡ true → (p : Point) → is_on_screen size p ≡ true → any_holds request p ≡ covers p w) windows

-- the requests of the windows before are those of all windows after but that of the slot
abbrev pub OthersAsk : Sides → ℕ → List WindowView → List WindowView → Type 0
OthersAsk size slot before after = (requests : List (List Rect)) → AreRequestsOf size before requests → AreRequestsOf size (windows_without slot after) requests

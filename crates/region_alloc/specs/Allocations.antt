-- Which pixels of the screen belong to which slot, as canonical lists.
use Rattle.std.specs.Prelude.{ℕ, ◌≡◌, ◌<◌, true, List, map, length, slice_index_or, [], All}
use Rattle.std.specs.List.{list_any}
use Rattle.qws_base.specs.Sides.{Sides}
use Rattle.qws_base.specs.Points.{any_holds, is_on_screen, origin_zero}
use Rattle.qws_base.specs.Regions.{IsRegionOf}
use Rattle.qws_base.specs.Windows.{covers, request_points, allocated_points}
use Rattle.qws_base.specs.Stacking.{slots}
use Rattle.qws_base.specs.declared.points.Point.{Point}
use Rattle.qws_base.specs.declared.points.Rect.{Rect}
use Rattle.qws_base.specs.declared.windows.WindowView.{WindowView}

-- the list of a slot, where there is one for each slot
abbrev pub of_slot : List (List Rect) → ℕ → List Rect
of_slot lists slot = slice_index_or lists slot []

-- the window asks for its slot's request, in coordinates of the screen
abbrev pub asking : List (List Rect) → WindowView → WindowView
asking requests w = record w { origin = origin_zero; rects = of_slot requests w.slot }

-- the windows of a stack, each with its slot's request
abbrev pub windows_asking : List (List Rect) → List WindowView → List WindowView
windows_asking requests stack = map (asking requests) stack

-- for each of the 32 slots the canonical list of the pixels that belong to it: those whose first window, from the front,
-- has the slot
pub record IsAllocation (size : Sides) (windows : List WindowView) (regions : List (List Rect)) : Type 0 where
  pub count : length regions ≡ 32
  pub each : (slot : ℕ) → slot < 32 → IsRegionOf (of_slot regions slot) (allocated_points size windows slot)

-- the request of each window's slot holds the pixels of the screen that the window covers, and maybe points off the screen
abbrev pub AreRequestsOf : Sides → List WindowView → List (List Rect) → Type 0
AreRequestsOf size windows requests =
    All (λ w. (p : Point) → is_on_screen size p ≡ true → any_holds (of_slot requests w.slot) p ≡ covers p w) windows

-- no pixel belongs to two slots, and together the slots have the pixels of the screen that windows request
pub record SharedOutLaw : Type 0 where
  pub apart : (size : Sides) (windows : List WindowView) (regions : List (List Rect)) → IsAllocation size windows regions
      → (i j : ℕ) (p : Point) → i < 32 → j < 32 → any_holds (of_slot regions i) p ≡ true → any_holds (of_slot regions j) p ≡ true → i ≡ j
  pub together : (size : Sides) (windows : List WindowView) (regions : List (List Rect)) → All (λ w. w.slot < 32) windows → IsAllocation size windows regions
      → (p : Point) → list_any (λ slot. any_holds (of_slot regions slot) p) slots ≡ list_any (λ w. request_points size w p) windows

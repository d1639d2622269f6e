-- What a command on one window leaves to the others.
use Rattle.std.specs.Prelude.{ℕ, ◌≡◌, ◌≢◌, ◌<◌, true, false, List}
use Rattle.qws_base.specs.Sides.{Sides}
use Rattle.qws_base.specs.Points.{any_holds, is_on_screen}
use Rattle.qws_base.specs.Windows.{owner_at, allocated_points}
use Rattle.qws_base.specs.Stacking.{windows_without}
use Rattle.qws_base.specs.declared.points.Point.{Point}
use Rattle.qws_base.specs.declared.points.Rect.{Rect}
use Rattle.qws_base.specs.declared.windows.WindowView.{WindowView}
use Rattle.region_alloc.specs.Allocations.{of_slot, windows_asking, IsAllocation}

-- outside `changed` each slot's region has the pixels that belong to the slot with these windows
abbrev pub IsSameOutside : Sides → List Rect → List (List Rect) → List WindowView → Type 0
IsSameOutside size changed regions windows =
    (slot : ℕ) → slot < 32 → (p : Point) → any_holds changed p ≡ false → any_holds (of_slot regions slot) p ≡ allocated_points size windows slot p

-- the pixels of the request are in `changed`
abbrev pub IsWithin : Sides → List Rect → List Rect → Type 0
IsWithin size changed request = (p : Point) → is_on_screen size p ≡ true → any_holds request p ≡ true → any_holds changed p ≡ true

-- the window of one slot came, went, or has another place in the stack or another request: the other windows stand as before
-- and ask for the same, and what the slot asked for before and asks for after is in `changed`
pub record ChangesOneSlot (size : Sides) (slot : ℕ) (changed : List Rect) (stack : List WindowView) (requests : List (List Rect)) (stack' : List WindowView) (requests' : List (List Rect)) : Type 0 where
  pub others : windows_without slot stack' ≡ windows_without slot stack
  pub kept : (other : ℕ) → other ≢ slot → of_slot requests' other ≡ of_slot requests other
  pub before : IsWithin size changed (of_slot requests slot)
  pub after : IsWithin size changed (of_slot requests' slot)

-- then outside `changed` no pixel of the screen changes its owner
abbrev pub OwnersLaw : Type 0
OwnersLaw = (size : Sides) (slot : ℕ) (changed : List Rect) (stack : List WindowView) (requests : List (List Rect)) (stack' : List WindowView) (requests' : List (List Rect))
    → ChangesOneSlot size slot changed stack requests stack' requests'
    → (p : Point) → is_on_screen size p ≡ true → any_holds changed p ≡ false → owner_at (windows_asking requests' stack') p ≡ owner_at (windows_asking requests stack) p

-- and an allocation of the windows before is, outside `changed`, as with the windows after
abbrev pub OutsideLaw : Type 0
OutsideLaw = (size : Sides) (slot : ℕ) (changed : List Rect) (stack : List WindowView) (requests : List (List Rect)) (stack' : List WindowView) (requests' : List (List Rect)) (regions : List (List Rect))
    → ChangesOneSlot size slot changed stack requests stack' requests' → IsAllocation size (windows_asking requests stack) regions
    → IsSameOutside size changed regions (windows_asking requests' stack')

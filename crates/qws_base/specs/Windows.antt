-- Windows from front to back: who owns a pixel, and where a window is.
use Rattle.std.specs.Prelude.{ℕ, Bool, false, ◌&&◌, ◌==◌, List, Option, None, Some}
use Rattle.std.specs.List.{list_any, find, filter}
use Rattle.std.specs.Option.{option_map, option_map_or}
use Rattle.qws_base.specs.Sides.{Sides}
use Rattle.qws_base.specs.Points.{holds, shifted, point_of, pixels, origin_zero, is_on_screen}
use Rattle.qws_base.specs.declared.points.Point.{Point}
use Rattle.qws_base.specs.declared.windows.WindowView.{WindowView}

abbrev pub has_slot : ℕ → WindowView → Bool
has_slot slot window = window.slot == slot

abbrev pub is_live : List WindowView → ℕ → Bool
is_live windows slot = list_any (has_slot slot) windows

-- a window of the client has the slot
abbrev pub is_own : List WindowView → ℕ → ℕ → Bool
is_own windows client slot = list_any (λ w. has_slot slot w && w.owner == client) windows

-- the client whose window has the slot
abbrev pub client_of_slot : List WindowView → ℕ → Option ℕ
client_of_slot windows slot = option_map (λ w. w.owner) (find (has_slot slot) windows)

-- the origin of the window in a slot; (0, 0) where there is none
abbrev pub origin_of : List WindowView → ℕ → Point
origin_of windows slot = option_map_or (λ w. w.origin) (find (has_slot slot) windows) origin_zero

-- one of the window's rectangles, moved by its origin, holds the point
abbrev pub covers : Point → WindowView → Bool
covers p window = list_any (λ r. holds (shifted window.origin r) p) window.rects

-- the request of a window on the screen: the pixels that it covers
abbrev pub request_points : Sides → WindowView → Point → Bool
request_points size window p = is_on_screen size p && covers p window

-- the slot of the first window that covers the point
abbrev pub owner_at : List WindowView → Point → Option ℕ
owner_at windows p = option_map (λ w. w.slot) (find (covers p) windows)

abbrev pub is_slot : ℕ → Option ℕ → Bool
is_slot slot None = false
is_slot slot (Some other) = other == slot

-- ---- what a picture needs to know of the windows; a published table tells the same

pub record Layout : Type 0 where
  -- the slot that owns a pixel
  pub owner : ℕ → Option ℕ
  -- the origin of a slot
  pub origin : ℕ → Point
  -- the client, first, has a window in the slot
  pub is_own : ℕ → ℕ → Bool

abbrev pub layout_of : Sides → List WindowView → Layout
layout_of size windows = record {
  owner = λ p. owner_at windows (point_of size.w p);
  origin = origin_of windows;
  is_own = is_own windows;
}

-- the pixel belongs to the slot
abbrev pub owns : Layout → ℕ → ℕ → Bool
owns layout slot p = is_slot slot (layout.owner p)

-- the pixels that belong to a slot, in order; none for a slot without a window
abbrev pub allocated : Sides → Layout → ℕ → List ℕ
allocated size layout slot = filter (owns layout slot) (pixels size)

-- the same as a set of points, which `IsRegionOf` speaks of
abbrev pub allocated_points : Sides → List WindowView → ℕ → Point → Bool
allocated_points size windows slot p = is_on_screen size p && is_slot slot (owner_at windows p)

-- What commands do to the list of windows, which goes from front to back: layer 1 stands before layer 0.
use Rattle.std.specs.Prelude.{ℕ, nat_lt, Bool, not, List, [], ◌∷◌, ◌++◌, Option, if◌then◌else◌}
use Rattle.std.specs.List.{find, filter, range_with_len}
use Rattle.std.specs.Option.{option_map_or}
use Rattle.qws_base.specs.Points.{origin_zero}
use Rattle.qws_base.specs.Windows.{has_slot, is_live}
use Rattle.qws_base.specs.declared.points.Point.{Point}
use Rattle.qws_base.specs.declared.points.Rect.{Rect}
use Rattle.qws_base.specs.declared.windows.WindowView.{WindowView}

-- the slots in ascending order, 0 to 31
unfoldable pub slots : List ℕ
slots = range_with_len 0 32

-- the least slot that no window has; none where each slot has a window
abbrev pub free_slot : List WindowView → Option ℕ
free_slot windows = find (λ slot. not (is_live windows slot)) slots

-- ---- places in the list

abbrev pub is_above : ℕ → WindowView → Bool
is_above layer window = nat_lt layer window.layer

abbrev pub is_below : ℕ → WindowView → Bool
is_below layer window = nat_lt window.layer layer

-- at the front of its layer: behind the windows of higher layers, before all others
abbrev pub with_front : WindowView → List WindowView → List WindowView
with_front new windows = filter (is_above new.layer) windows ++ new ∷ filter (λ w. not (is_above new.layer w)) windows

-- at the back of its layer: before the windows of lower layers, behind all others
abbrev pub with_back : WindowView → List WindowView → List WindowView
with_back new windows = filter (λ w. not (is_below new.layer w)) windows ++ new ∷ filter (is_below new.layer) windows

-- ---- the windows after a command

-- a new window: at (0, 0), without rectangles
abbrev pub new_window : ℕ → ℕ → ℕ → WindowView
new_window slot client layer = record { slot = slot; owner = client; layer = layer; origin = origin_zero; rects = [] }

-- with a new window of the client in the least free slot, at the front of its layer
abbrev pub windows_created : ℕ → ℕ → List WindowView → List WindowView
windows_created client layer windows =
    option_map_or (λ slot. with_front (new_window slot client layer) windows) (free_slot windows) windows

-- without the window of the slot
abbrev pub windows_without : ℕ → List WindowView → List WindowView
windows_without slot windows = filter (λ w. not (has_slot slot w)) windows

-- the window of the slot with a new origin and new rectangles, and each other window as it is
abbrev pub with_region : ℕ → Point → List Rect → WindowView → WindowView
with_region slot origin rects w = if has_slot slot w then record w { origin = origin; rects = rects } else w

-- the window of the slot with a new origin, and each other window as it is
abbrev pub with_origin : ℕ → Point → WindowView → WindowView
with_origin slot origin w = if has_slot slot w then record w { origin = origin } else w

-- the window of the slot at the front of its layer
abbrev pub windows_raised : ℕ → List WindowView → List WindowView
windows_raised slot windows = option_map_or (λ w. with_front w (windows_without slot windows)) (find (has_slot slot) windows) windows

-- the window of the slot at the back of its layer
abbrev pub windows_lowered : ℕ → List WindowView → List WindowView
windows_lowered slot windows = option_map_or (λ w. with_back w (windows_without slot windows)) (find (has_slot slot) windows) windows

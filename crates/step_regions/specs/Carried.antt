-- The pixels that a move carries.
use Rattle.std.specs.Prelude.{◌≡◌, ℕ, ◌+◌, ◌-◌, ◌<◌, ◌≤◌, pos, negsuc, ◌≤ℤ◌, ℤ, Bool, true, false, List, [], Option, Some, None, All, if◌then◌else◌}
use Rattle.qws_base.specs.Sides.{Sides}
use Rattle.qws_base.specs.Points.{any_holds, point_of, pixel_at, pixel_count, minus}
use Rattle.qws_base.specs.Scenes.{Setting, source_in}
use Rattle.qws_base.specs.States.{is_refused, moved_slot}
use Rattle.qws_base.specs.Windows.{layout_of, origin_of, owner_at, is_slot}
use Rattle.qws_base.specs.RectPixels.{IsWithin}
use Rattle.qws_base.specs.declared.points.Point.{Point}
use Rattle.qws_base.specs.declared.points.Rect.{Rect}
use Rattle.qws_base.specs.declared.windows.WindowView.{WindowView}
use Rattle.window_core.specs.CoreViews.{PlanView}

-- the pixel whose colour is brought to p: so many places ahead, or falling so many behind
abbrev pub source : Bool → ℕ → ℕ → ℕ
source false by p = p + by
source true by p = p - by

-- the source of p is a pixel
abbrev pub HasSource : Setting → Bool → ℕ → ℕ → Type 0
HasSource setting false by p = p + by < pixel_count setting.size
HasSource setting true by p = by ≤ p

-- how far a window may move
pub record IsNear (d : ℤ) : Type 0 where
  pub low : negsuc 8191 ≤ℤ d
  pub high : d ≤ℤ pos 8192

-- The region has the pixels to which a move of the slot by a distance carries, each from its source.
pub record IsCarried (size : Sides) (before after : List WindowView) (slot : ℕ) (distance : Point) (region : List Rect) (falling : Bool) (by : ℕ) : Type 0 where
  pub within : All (IsWithin size) region
  pub carries : (p : ℕ) → p < pixel_count size → source_in size (layout_of size before) (layout_of size after) slot p (pixel_at size (minus (point_of size.w p) distance))
      ≡ (if any_holds region (point_of size.w p) then Some (source falling by p) else None)
  pub owned : (p : ℕ) → p < pixel_count size → any_holds region (point_of size.w p) ≡ true → is_slot slot (owner_at after (point_of size.w p)) ≡ true
  pub sources : (setting : Setting) (p : ℕ) → setting.size ≡ size → p < pixel_count size → any_holds region (point_of size.w p) ≡ true → HasSource setting falling by p

-- the region has the pixels that the move of a slot carries; without a move it has none
abbrev pub CarriesFor : Sides → List WindowView → List WindowView → Option ℕ → List Rect → Bool → ℕ → Type 0
CarriesFor size before after None region falling by = region ≡ []
CarriesFor size before after (Some slot) region falling by = IsCarried size before after slot (minus (origin_of after slot) (origin_of before slot)) region falling by

-- the slot whose pixels a plan's step carries: that of an accepted move
abbrev pub slot_carried : PlanView → Option ℕ
slot_carried plan = if is_refused plan.reply then None else moved_slot plan.command

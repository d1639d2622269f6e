-- The parts of a region that go to the windows.
use Rattle.std.specs.Prelude.{ℕ, ◌≡◌, ◌<◌, Bool, ◌&&◌, List, length, take, is_none}
use Rattle.qws_base.specs.Points.{any_holds}
use Rattle.qws_base.specs.Regions.{IsRegionOf}
use Rattle.qws_base.specs.Windows.{owner_at, is_slot}
use Rattle.qws_base.specs.declared.points.Point.{Point}
use Rattle.qws_base.specs.declared.points.Rect.{Rect}
use Rattle.qws_base.specs.declared.windows.WindowView.{WindowView}
use Rattle.region_alloc.specs.Allocations.{of_slot}

-- the point is in the ground, and the first window that covers it has the slot
abbrev pub part_points : List Rect → List WindowView → ℕ → Point → Bool
part_points ground windows slot p = any_holds ground p && is_slot slot (owner_at windows p)

-- for each of the 32 slots its part of the ground
pub record AreParts (ground : List Rect) (windows : List WindowView) (parts : List (List Rect)) : Type 0 where
  pub count : length parts ≡ 32
  pub each : (slot : ℕ) → slot < 32 → IsRegionOf (of_slot parts slot) (part_points ground windows slot)

-- the ground has been shared out among the first k windows: what is left of it, and their parts
pub record IsSharedUpTo (whole : List Rect) (windows : List WindowView) (k : ℕ) (ground : List Rect) (parts : List (List Rect)) : Type 0 where
  pub left : (p : Point) → any_holds ground p ≡ (any_holds whole p && is_none (owner_at (take k windows) p))
  pub shares : AreParts whole (take k windows) parts

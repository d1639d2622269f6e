-- The table that a state publishes.
use Rattle.std.specs.Prelude.{◌≡◌, ◌≢◌, ℕ, ◌<◌, List, length, All, AllPairs}
use Rattle.qws_base.specs.Sides.{Sides}
use Rattle.qws_base.specs.Regions.{IsRegionOf}
use Rattle.qws_base.specs.Points.{pixel_count}
use Rattle.qws_base.specs.Windows.{Layout, layout_of, client_of_slot, origin_of, allocated_points}
use Rattle.qws_base.specs.States.{State, revision_of}
use Rattle.qws_base.specs.declared.windows.WindowView.{WindowView}
use Rattle.region_table.specs.Tables.{no_row, row_of}
use Rattle.region_table.specs.Layouts.{layout_of_table}
use Rattle.region_table.specs.declared.tables.Row.{Row}
use Rattle.region_table.specs.declared.tables.Table.{Table}

-- the row has the slot's client, revision, origin, and the canonical list of the points that belong to it
pub record IsRowOf (size : Sides) (state : State) (slot : ℕ) (row : Row) : Type 0 where
  pub owner : row.owner ≡ client_of_slot state.windows slot
  pub revision : row.revision ≡ revision_of state slot
  pub origin : row.origin ≡ origin_of state.windows slot
  pub region : IsRegionOf row.rects (allocated_points size state.windows slot)

-- The table has the stamp, the state's cursor, a row for each of the slots 0 to 31, and the row of slot 32, which no
-- window has.
pub record IsTableOf (size : Sides) (state : State) (stamp : ℕ) (table : Table) : Type 0 where
  pub stamp_is : table.stamp ≡ stamp
  pub cursor_is : table.cursor ≡ state.cursor
  pub whole : length table.rows ≡ 33
  pub rows : (slot : ℕ) → slot < 32 → IsRowOf size state slot (row_of table slot)
  pub last : row_of table 32 ≡ no_row

-- ---- what it tells

-- two layouts tell the same of each pixel of the screen, and of each slot
pub record TellSame (size : Sides) (a b : Layout) : Type 0 where
  pub owner : (p : ℕ) → p < pixel_count size → a.owner p ≡ b.owner p
  pub origin : (slot : ℕ) → a.origin slot ≡ b.origin slot
  pub is_own : (client slot : ℕ) → a.is_own client slot ≡ b.is_own client slot

-- each window has a slot of its own, below 32
pub record AreSlotted (windows : List WindowView) : Type 0 where
  pub few : All (λ w. w.slot < 32) windows
  pub once : AllPairs (λ v w. v.slot ≢ w.slot) windows

-- the table of a state tells the same as the state's windows
abbrev pub PublishedLaw : Type 0
PublishedLaw = (size : Sides) (state : State) (stamp : ℕ) (table : Table) → IsTableOf size state stamp table → AreSlotted state.windows
    → TellSame size (layout_of_table size table) (layout_of size state.windows)

-- The rows of a table that a planned step publishes.
use Rattle.std.specs.Prelude.{◌≡◌, ℕ, ◌+◌, ◌≤◌, List, length, slice_index}
use Rattle.std.specs.List.{Contains}
use Rattle.qws_base.specs.Regions.{IsRegionOf}
use Rattle.qws_base.specs.Windows.{client_of_slot, origin_of, allocated_points}
use Rattle.region_table.specs.Numbers.{row_word}
use Rattle.region_table.specs.Tables.{row_of, row_word_of}
use Rattle.region_table.specs.Spelling.{Spell}
use Rattle.region_table.specs.declared.tables.Row.{Row}
use Rattle.region_table.specs.declared.tables.Table.{Table}
use Rattle.window_core.specs.CoreViews.{PlanView}
use Rattle.table_turns.specs.Writes.{Sets}

-- the row has what the slot has after a plan's step
pub record IsPlannedRow (plan : PlanView) (slot : ℕ) (row : Row) : Type 0 where
  pub owner : row.owner ≡ client_of_slot plan.windows slot
  pub revision : row.revision ≡ slice_index plan.revisions slot
  pub origin : row.origin ≡ origin_of plan.windows slot
  pub region : IsRegionOf row.rects (allocated_points plan.size plan.windows slot)

-- the words of such a row are set
pub record WritesPlanned (plan : PlanView) (slot : ℕ) (before after : List ℕ) : Type 0 where
  pub row : Row
  pub planned : IsPlannedRow plan slot row
  pub few : length row.rects ≤ 256
  pub sets : Sets (row_word slot) (4 + length row.rects) (row_word_of row) before after

-- the words spell a table that has such rows for these slots, and else what another table has
pub record SpellsRows (plan : PlanView) (slots : List ℕ) (table : Table) (words : List ℕ) : Type 0 where
  pub now : Table
  pub spelled : Spell (slice_index words) now
  pub stamp : now.stamp ≡ table.stamp
  pub cursor : now.cursor ≡ table.cursor
  pub whole : length now.rows ≡ length table.rows
  pub planned : (slot : ℕ) → Contains slots slot → IsPlannedRow plan slot (row_of now slot)
  pub kept : (slot : ℕ) → (Contains slots slot → ⊥) → row_of now slot ≡ row_of table slot

-- words that spelled a table before spell one with such rows after
pub record WritesRows (plan : PlanView) (slots : List ℕ) (before after : List ℕ) : Type 0 where
  pub long : length after ≡ length before
  pub spells : (table : Table) → length table.rows ≡ 33 → Spell (slice_index before) table → SpellsRows plan slots table after

-- What a table tells of the windows.
use Rattle.std.specs.Prelude.{◌≡◌, ℕ, ◌<◌, Bool, true, false, ◌==◌, Option, None, Some, position}
use Rattle.qws_base.specs.Sides.{Sides}
use Rattle.qws_base.specs.Points.{any_holds, point_of, pixel_count}
use Rattle.qws_base.specs.Windows.{Layout}
use Rattle.qws_base.specs.declared.points.Point.{Point}
use Rattle.region_table.specs.Tables.{row_of}
use Rattle.region_table.specs.declared.tables.Row.{Row}
use Rattle.region_table.specs.declared.tables.Table.{Table}

-- one of the row's rectangles has the point
abbrev pub row_holds : Point → Row → Bool
row_holds p row = any_holds row.rects p

-- the slot of the first row that has the point
abbrev pub slot_at : Table → Point → Option ℕ
slot_at table p = position (row_holds p) table.rows

abbrev pub is_owner : ℕ → Option ℕ → Bool
is_owner client None = false
is_owner client (Some other) = other == client

-- the owner of a pixel is the first row that has its point; a client owns the slots whose rows name it
abbrev pub layout_of_table : Sides → Table → Layout
layout_of_table size table = record {
  owner = λ p. slot_at table (point_of size.w p);
  origin = λ slot. (row_of table slot).origin;
  is_own = λ client slot. is_owner client (row_of table slot).owner;
}

-- no pixel of the screen is in two rows
pub record AreApart (size : Sides) (table : Table) : Type 0 where
  pub apart : (i j p : ℕ) → p < pixel_count size → row_holds (point_of size.w p) (row_of table i) ≡ true → row_holds (point_of size.w p) (row_of table j) ≡ true → i ≡ j

-- The table before the first server turn.
use Rattle.std.specs.Prelude.{◌≡◌, ℕ, ◌-◌, ◌%◌, ◌==◌, nat_lt, List, map, if◌then◌else◌}
use Rattle.std.specs.List.{range_with_len}
use Rattle.qws_base.specs.Sides.{Sides}
use Rattle.qws_base.specs.States.{opening_cursor, opening_state}
use Rattle.region_table.specs.Numbers.{first_row, row_size, IsTableWord}
use Rattle.region_table.specs.Tables.{no_row, table_from}
use Rattle.region_table.specs.Published.{IsTableOf}
use Rattle.region_table.specs.declared.tables.Row.{Row}
use Rattle.region_table.specs.declared.tables.Table.{Table}

unfoldable pub opening_rows : List Row
opening_rows = map (λ slot. no_row) (range_with_len 0 33)

-- no server turn is closed, the cursor is hidden and has no cells, and no slot has a window
abbrev pub opening_table : Table
opening_table = record { stamp = 0; cursor = opening_cursor; rows = opening_rows }

-- the words of a row without a window, counted from its first: revision 1, and the origin (0, 0) with its offsets
abbrev pub opening_row_word : ℕ → ℕ
opening_row_word k = if k == 1 then 1 else if k == 2 then 2147516416 else 0

-- the opening value of the table word with that number
abbrev pub opening_word : ℕ → ℕ
opening_word index = if nat_lt index first_row then 0 else opening_row_word ((index - first_row) % row_size)

-- the opening words are read as the opening table, which the opening state publishes
pub record OpeningLaw : Type 0 where
  pub words : (words : ℕ → ℕ) → ((index : ℕ) → IsTableWord index → words index ≡ opening_word index) → table_from words ≡ opening_table
  pub published : (size : Sides) → IsTableOf size opening_state 0 opening_table

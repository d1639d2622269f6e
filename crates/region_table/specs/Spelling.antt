-- Words that spell a table.
use Rattle.std.specs.Prelude.{◌≡◌, ℕ, ◌+◌, ◌-◌, ◌/◌, ◌%◌, ◌<◌, ◌⊎◌, length}
use Rattle.region_table.specs.Numbers.{first_row, row_size, IsTableWord}
use Rattle.region_table.specs.Tables.{row_of, word_of_table, IsSpellable, table_from}
use Rattle.region_table.specs.declared.tables.Table.{Table}

-- a table word says something, but for the rectangle words past a row's rectangles
abbrev pub IsSaid : Table → ℕ → Type 0
IsSaid table index = (index < first_row) ⊎ ((index - first_row) % row_size < 4 + length (row_of table ((index - first_row) / row_size)).rects)

-- each word that says something is the table's
pub record Spell (words : ℕ → ℕ) (table : Table) : Type 0 where
  pub said : (index : ℕ) → IsTableWord index → IsSaid table index → words index ≡ word_of_table table index

-- the words of a table are read as that table, whatever the others are
abbrev pub SpellingLaw : Type 0
SpellingLaw = (words : ℕ → ℕ) (table : Table) → IsSpellable table → Spell words table → table_from words ≡ table

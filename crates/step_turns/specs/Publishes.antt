-- Words that publish a state.
use Rattle.std.specs.Prelude.{ℕ, ◌+◌, List, slice_index}
use Rattle.qws_base.specs.Sides.{Sides, IsScreen}
use Rattle.qws_base.specs.States.{State, opening_state}
use Rattle.region_table.specs.Spelling.{Spell}
use Rattle.region_table.specs.Published.{IsTableOf}
use Rattle.region_table.specs.declared.tables.Table.{Table}
use Rattle.turn_logs.specs.Tables.{opening_table, table_of, IsTable}
use Rattle.turn_logs.specs.Publishing.{IsPublishable}

-- The words spell the table of a state with a stamp, which is within the ranges of the words where so many clients are admitted.
pub record Publishes (size : Sides) (admitted stamp : ℕ) (state : State) (words : List ℕ) : Type 0 where
  pub table : Table
  pub spelled : Spell (slice_index words) table
  pub of_state : IsTableOf size state stamp table
  pub fits : IsPublishable size admitted state table

-- The opening words publish the opening state; words that publish a state do so where one more client is admitted; and they
-- are a table, that of the state.
pub record PublishesLaw : Type 0 where
  pub opens : (size : Sides) (admitted : ℕ) → IsScreen size → Publishes size admitted 0 opening_state opening_table
  pub admits : (size : Sides) (admitted stamp : ℕ) (state : State) (words : List ℕ) → Publishes size admitted stamp state words → Publishes size (admitted + 1) stamp state words
  pub well_formed : (size : Sides) (admitted stamp : ℕ) (state : State) (words : List ℕ) → IsScreen size → Publishes size admitted stamp state words → IsTable size admitted stamp words
  pub of_state : (size : Sides) (admitted stamp : ℕ) (state : State) (words : List ℕ) → IsScreen size → Publishes size admitted stamp state words → IsTableOf size state stamp (table_of words)

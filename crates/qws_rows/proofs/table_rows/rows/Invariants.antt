use Rattle.std.proofs.Common.{◌≡◌, vec_len}
use Rattle.std.specs.Prelude.{All}
use Rattle.region_table.specs.Tables.{IsSpellableRow}
use Rattle.qws_rows.proofs.table_rows.rows.Given as goal

abbrev pub invariant-loop-slot : goal.invariant-loop-slot
invariant-loop-slot l = record { count : vec_len l.rows ≡ l.slot; each : All IsSpellableRow l.rows.items }

use Rattle.std.proofs.Common.{◌+◌, map}
use Rattle.std.specs.Prelude.{slice_index}
use Rattle.display_lock.specs.Turns.{IsOpenServer, SameServerTurn}
use Rattle.region_table.specs.Numbers.{row_word}
use Rattle.region_table.specs.Packing.{packed}
use Rattle.table_turns.specs.Writes.{OnlyTable, Sets}
use Rattle.table_turns.proofs.rows.write_rects.Given as goal

abbrev pub invariant-loop-j : goal.invariant-loop-j
invariant-loop-j l = record {
  same : SameServerTurn l.fn.turn l.turn;
  is_open : IsOpenServer l.turn;
  head : OnlyTable l.fn.turn.head.now l.turn.head.now;
  words : Sets (row_word l.slot + 4) l.j (slice_index (map packed l.rects)) l.fn.turn.head.now.server.present l.turn.head.now.server.present;
}

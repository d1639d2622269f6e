use Rattle.std.proofs.Common.{◌≤◌, length}
use Rattle.display_lock.specs.Turns.{IsOpen, SameTurn, client_in}
use Rattle.sw_cursor.specs.Covers.{PaintsOn, IsCover}
use Rattle.shared_painter.specs.Painted.{PaintsInks}
use Rattle.shared_painter.proofs.rows.paint_clear.Given as goal

abbrev pub invariant-loop-j : goal.invariant-loop-j
invariant-loop-j l = record {
  same : SameTurn l.fn.turn l.turn;
  is_open : IsOpen l.turn;
  goes : PaintsOn (client_in l.fn.turn) (client_in l.turn);
  covers : IsCover (client_in l.turn) l.cover;
  log : PaintsInks l.inks l.first l.j (client_in l.fn.turn) (client_in l.turn) l.count;
  few : l.count ≤ l.j;
  within : l.j ≤ length l.inks;
}

use Rattle.std.proofs.Common.{◌≡◌, ◌≤◌, length, ◌-ℤ◌}
use Rattle.std.specs.List.{filter, range_with_len}
use Rattle.qws_base.specs.Scenes.{has_ink}
use Rattle.qws_base.specs.Sheets.{row_of}
use Rattle.display_lock.specs.Turns.{IsOpen, SameTurn, client_in}
use Rattle.sw_cursor.specs.Covers.{PaintsOn, IsCover}
use Rattle.shared_painter.specs.Painted.{PaintsPixels}
use Rattle.shared_painter.proofs.rows.paint_row.Given as goal

abbrev pub invariant-loop-j : goal.invariant-loop-j
invariant-loop-j g l = record {
  same : SameTurn l.fn.turn l.turn;
  is_open : IsOpen l.turn;
  goes : PaintsOn (client_in l.fn.turn) (client_in l.turn);
  covers : IsCover (client_in l.turn) l.cover;
  row : l.inks ≡ row_of (g.P.Picture.sheet l.picture) (l.at.y -ℤ l.fn.origin.y) (l.at.x -ℤ l.fn.origin.x) (length l.fn.inks);
  log : PaintsPixels l.fn.origin (g.P.Picture.sheet l.picture) (range_with_len l.first l.j) (client_in l.fn.turn) (client_in l.turn);
  few : l.count ≤ l.j;
  counted : l.count ≡ length (filter (has_ink (client_in l.fn.turn).setting.size.w l.fn.origin (g.P.Picture.sheet l.picture)) (range_with_len l.first l.j));
}

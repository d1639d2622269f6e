use Rattle.std.proofs.Common.{◌≡◌, ◌*◌, ◌≤◌, length}
use Rattle.std.specs.List.{filter}
use Rattle.qws_base.specs.Scenes.{has_ink}
use Rattle.display_lock.specs.Turns.{IsOpen, SameTurn, client_in}
use Rattle.sw_cursor.specs.Covers.{PaintsOn, IsCover}
use Rattle.shared_painter.specs.Painted.{PaintsPixels}
use Rattle.qws_base.proofs.PixelRows.{rows_of}
use Rattle.shared_painter.proofs.rows.paint_rect.Given as goal

abbrev pub invariant-loop-i : goal.invariant-loop-i
invariant-loop-i g l = record {
  same : SameTurn l.fn.turn l.turn;
  is_open : IsOpen l.turn;
  goes : PaintsOn (client_in l.fn.turn) (client_in l.turn);
  covers : IsCover (client_in l.turn) l.cover;
  room : length l.inks ≡ 640;
  log : PaintsPixels l.fn.origin (g.P.Picture.sheet l.picture) (rows_of l.fn.size.w l.fn.rect l.i) (client_in l.fn.turn) (client_in l.turn);
  few : l.count ≤ l.fn.rect.w * l.i;
  counted : l.count ≡ length (filter (has_ink l.fn.size.w l.fn.origin (g.P.Picture.sheet l.picture)) (rows_of l.fn.size.w l.fn.rect l.i));
}

use Rattle.std.proofs.Common.{◌≡◌, ◌*◌, ◌≤◌, length, take}
use Rattle.std.specs.List.{filter}
use Rattle.qws_base.specs.Scenes.{has_ink}
use Rattle.display_lock.specs.Turns.{IsOpen, SameTurn, client_in}
use Rattle.sw_cursor.specs.Covers.{PaintsOn, IsCover}
use Rattle.shared_painter.specs.Painted.{PaintsPixels, cut_pixels}
use Rattle.shared_painter.proofs.rows.paint_rects.Given as goal

abbrev pub invariant-loop-rect : goal.invariant-loop-rect
invariant-loop-rect g l = record {
  same : SameTurn l.fn.turn l.turn;
  is_open : IsOpen l.turn;
  goes : PaintsOn (client_in l.fn.turn) (client_in l.turn);
  covers : IsCover (client_in l.turn) l.cover;
  room : length l.inks ≡ 640;
  log : PaintsPixels l.fn.origin (g.P.Picture.sheet l.picture) (cut_pixels l.fn.size.w l.fn.origin (g.P.Picture.sheet l.picture).reach (take l.rect-index l.rects)) (client_in l.fn.turn) (client_in l.turn);
  few : l.count ≤ 307200 * l.rect-index;
  counted : l.count ≡ length (filter (has_ink l.fn.size.w l.fn.origin (g.P.Picture.sheet l.picture)) (cut_pixels l.fn.size.w l.fn.origin (g.P.Picture.sheet l.picture).reach (take l.rect-index l.rects)));
}

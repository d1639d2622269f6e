use Rattle.std.proofs.Common.{◌≡◌, ◌*◌, ◌≤◌, length}
use Rattle.std.specs.List.{filter}
use Rattle.qws_base.specs.Scenes.{has_ink}
use Rattle.qws_base.proofs.PixelRows.{rows_of}
use Rattle.gfx_painters.specs.Plain.{laid}
use Rattle.gfx_painters.proofs.plain.paint_rect.Given as goal

abbrev pub invariant-loop-i : goal.invariant-loop-i
invariant-loop-i g l = record {
  room : length l.inks ≡ 640;
  canvas : l.canvas ≡ record l.fn.canvas { scene = laid l.fn.canvas.setting l.fn.origin (g.P.Picture.sheet l.picture) (rows_of l.fn.size.w l.fn.rect l.i) l.fn.canvas.scene };
  few : l.count ≤ l.fn.rect.w * l.i;
  counted : l.count ≡ length (filter (has_ink l.fn.size.w l.fn.origin (g.P.Picture.sheet l.picture)) (rows_of l.fn.size.w l.fn.rect l.i));
}

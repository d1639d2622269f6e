use Rattle.std.proofs.Common.{◌≡◌, length, take}
use Rattle.std.specs.List.{filter}
use Rattle.qws_base.specs.RectPixels.{rects_pixels}
use Rattle.qws_base.specs.Scenes.{has_ink}
use Rattle.gfx_painters.specs.Plain.{laid}
use Rattle.gfx_painters.proofs.plain.paint_rects.Given as goal

abbrev pub invariant-loop-rect : goal.invariant-loop-rect
invariant-loop-rect g l = record {
  room : length l.inks ≡ 640;
  canvas : l.canvas ≡ record l.fn.canvas { scene = laid l.fn.canvas.setting l.fn.origin (g.P.Picture.sheet l.picture) (rects_pixels l.fn.canvas.setting.size.w (take l.rect-index l.rects)) l.fn.canvas.scene };
  counted : l.count ≡ length (filter (has_ink l.fn.canvas.setting.size.w l.fn.origin (g.P.Picture.sheet l.picture)) (rects_pixels l.fn.canvas.setting.size.w (take l.rect-index l.rects)));
}

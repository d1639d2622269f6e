use Rattle.std.proofs.Common.{◌≡◌, ◌≤◌, length, ◌-ℤ◌}
use Rattle.std.specs.List.{filter, range_with_len}
use Rattle.qws_base.specs.Scenes.{has_ink}
use Rattle.qws_base.specs.Sheets.{row_of}
use Rattle.gfx_painters.specs.Plain.{laid}
use Rattle.gfx_painters.proofs.plain.paint_row.Given as goal

abbrev pub invariant-loop-j : goal.invariant-loop-j
invariant-loop-j g l = record {
  row : l.inks ≡ row_of (g.P.Picture.sheet l.picture) (l.fn.at.y -ℤ l.fn.origin.y) (l.fn.at.x -ℤ l.fn.origin.x) (length l.fn.inks);
  canvas : l.canvas ≡ record l.fn.canvas { scene = laid l.fn.canvas.setting l.fn.origin (g.P.Picture.sheet l.picture) (range_with_len l.first l.j) l.fn.canvas.scene };
  few : l.count ≤ l.j;
  counted : l.count ≡ length (filter (has_ink l.fn.canvas.setting.size.w l.fn.origin (g.P.Picture.sheet l.picture)) (range_with_len l.first l.j));
}

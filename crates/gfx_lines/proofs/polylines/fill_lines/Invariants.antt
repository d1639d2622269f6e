use Rattle.std.proofs.Common.{take, cond, length}
use Rattle.qws_base.specs.declared.inks.Ink.TheVariants.{Skip}
use Rattle.picture_rows.specs.Runs.{pixel, IsInked}
use Rattle.gfx_lines.specs.Strokes.{on_polyline}
use Rattle.gfx_lines.proofs.polylines.fill_lines.Given as goal

abbrev pub invariant-loop-i : goal.invariant-loop-i
invariant-loop-i l = IsInked (length l.fn.out) (λ k. cond (on_polyline (take l.i l.points) (pixel l.y l.x k)) l.ink Skip) l.out

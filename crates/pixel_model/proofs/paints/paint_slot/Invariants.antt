use Rattle.std.proofs.Common.{◌≡◌, ◌<◌, ◌≤◌, ℕ, length, get_or}
use Rattle.std.specs.List.{filter, range_with_len}
use Rattle.qws_base.specs.Windows.{layout_of, owns}
use Rattle.qws_base.specs.Scenes.{Setting, has_ink, pixel_after_paint}
use Rattle.pixel_model.specs.Drawn.{AllSceneColours}
use Rattle.pixel_model.proofs.paints.paint_slot.Given as goal

abbrev pub invariant-loop-p : goal.invariant-loop-p
invariant-loop-p g l =
    let sheet = g.P.Picture.sheet l.picture in
    let setting : Setting = record { size = l.size; depth = l.depth; backdrop = 0 } in
    record {
      done : (k : ℕ) → k < l.p → get_or l.cells k 0 ≡ pixel_after_paint setting (layout_of l.size l.windows) l.slot sheet l.initial.cells k;
      left : (k : ℕ) → l.p ≤ k → get_or l.cells k 0 ≡ get_or l.initial.cells k 0;
      colours : AllSceneColours l.depth l.cells;
      few : l.pixels ≤ l.p;
      count : l.pixels ≡ length (filter (has_ink l.size.w l.origin sheet) (filter (owns (layout_of l.size l.windows) l.slot) (range_with_len 0 l.p)));
    }

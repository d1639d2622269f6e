use Rattle.std.proofs.Common.{◌≡◌, ◌<◌, ◌≤◌, ℕ, get_or}
use Rattle.qws_base.specs.Windows.{layout_of}
use Rattle.qws_base.specs.Scenes.{Setting, pixel_after_step}
use Rattle.qws_base.specs.declared.colours.Depth.TheVariants.{Full}
use Rattle.pixel_model.proofs.steps.rise.Given as goal

abbrev pub invariant-loop-p : goal.invariant-loop-p
invariant-loop-p l =
    let setting : Setting = record { size = l.size; depth = Full; backdrop = l.backdrop } in
    record {
      done : (k : ℕ) → k < l.p → get_or l.cells k 0 ≡ pixel_after_step setting (layout_of l.size l.before) (layout_of l.size l.after) l.moved l.initial.cells k;
      left : (k : ℕ) → l.p ≤ k → get_or l.cells k 0 ≡ get_or l.initial.cells k 0;
    }

use Rattle.std.proofs.Common.{◌≡◌, map}
use Rattle.std.specs.List.{range_with_len}
use Rattle.qws_base.specs.Scenes.{Setting}
use Rattle.qws_base.specs.Shown.{shown_pixel}
use Rattle.pixel_model.proofs.shows.show.Given as goal

abbrev pub invariant-loop-p : goal.invariant-loop-p
invariant-loop-p l =
    let setting : Setting = record { size = l.size; depth = l.depth; backdrop = 0 } in
    l.shown.items ≡ map (shown_pixel setting l.cursor l.cells) (range_with_len 0 l.p)

use Rattle.std.proofs.Common.{◌≡◌, ◌++◌, take}
use Rattle.std.specs.Prelude.{All}
use Rattle.qws_frames.specs.Encoding.{rects_bytes, IsRect}
use Rattle.qws_frames.proofs.building.put_rects.Given as goal

abbrev pub invariant-loop-rect : goal.invariant-loop-rect
invariant-loop-rect l =
    record {
      put : l.frame.items ≡ l.initial.frame.items ++ rects_bytes (take l.rect-index l.rects);
      fit : All IsRect (take l.rect-index l.rects);
    }

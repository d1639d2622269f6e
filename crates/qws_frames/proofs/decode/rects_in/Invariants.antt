use Rattle.std.proofs.Common.{◌≡◌}
use Rattle.qws_frames.specs.Layout.{rects_at}
use Rattle.qws_frames.proofs.decode.rects_in.Given as goal

abbrev pub invariant-loop-k : goal.invariant-loop-k
invariant-loop-k l = l.all.items ≡ rects_at 24 l.k l.bytes

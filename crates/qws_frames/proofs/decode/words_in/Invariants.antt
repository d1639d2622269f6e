use Rattle.std.proofs.Common.{◌≡◌}
use Rattle.qws_frames.specs.Layout.{words_at}
use Rattle.qws_frames.proofs.decode.words_in.Given as goal

abbrev pub invariant-loop-k : goal.invariant-loop-k
invariant-loop-k l = l.all.items ≡ words_at 16 l.k l.bytes

use Rattle.std.proofs.Common.{◌≡◌, ◌++◌, take}
use Rattle.qws_frames.specs.Encoding.{words_bytes}
use Rattle.qws_frames.proofs.building.put_words.Given as goal

abbrev pub invariant-loop-word : goal.invariant-loop-word
invariant-loop-word l = l.frame.items ≡ l.initial.frame.items ++ words_bytes (take l.word-index l.words)

use Rattle.std.proofs.Common.{◌≡◌, ◌++◌, take}
use Rattle.std.specs.List.{flat_map}
use Rattle.session_journal.specs.Texts.{colour_bytes}
use Rattle.session_journal.proofs.writing.push_raster.Given as goal

abbrev pub invariant-loop-c : goal.invariant-loop-c
invariant-loop-c l = l.out.items ≡ l.fn.out.items ++ flat_map colour_bytes (take l.c-index l.shown)

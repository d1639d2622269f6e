use Rattle.std.proofs.Common.{◌≡◌, ◌+◌, ◌<◌, ℕ, get_or, slice_index}
use Rattle.qws_base.specs.declared.inks.Ink.TheVariants.{Skip}
use Rattle.gfx_fills.specs.Images.{faded_ink}
use Rattle.gfx_fills.proofs.blits.faded_inks.Given as goal

abbrev pub invariant-loop-j : goal.invariant-loop-j
invariant-loop-j l = (k : ℕ) → k < l.j → get_or l.out k Skip ≡ faded_ink l.alpha (slice_index l.pixels (l.first + k))

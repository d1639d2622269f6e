use Rattle.std.proofs.Common.{◌≡◌, ◌+◌, ◌%◌, ◌<◌, ℕ, length, get_or, slice_index}
use Rattle.qws_base.specs.declared.inks.Ink.TheVariants.{Skip}
use Rattle.gfx_fills.specs.Images.{pixel_ink}
use Rattle.gfx_fills.proofs.tiles.repeated_inks.Given as goal

abbrev pub invariant-loop-j : goal.invariant-loop-j
invariant-loop-j l = record {
  column : l.column ≡ (l.first + l.j) % length l.pixels;
  below : l.column < length l.pixels;
  done : (k : ℕ) → k < l.j → get_or l.out k Skip ≡ pixel_ink (slice_index l.pixels ((l.first + k) % length l.pixels));
}

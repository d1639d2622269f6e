use Rattle.std.proofs.Common.{◌≡◌}
use Rattle.fb_words.specs.declared.known.ServerMode.TheVariants.{Writing}
use Rattle.qws_rows_painters.proofs.turns.read_pixels.Given as goal

abbrev pub invariant-loop-p : goal.invariant-loop-p
invariant-loop-p l = record {
  screen : l.head.screen ≡ l.screen;
  writing : l.head.server.mode ≡ Writing;
  setting : l.head.server.setting ≡ l.screen.setting;
}

use Rattle.std.proofs.Common.{◌≡◌, ◌+◌, false, length}
use Rattle.fb_words.specs.declared.known.Mode.TheVariants.{Idle}
use Rattle.fb_words.specs.Views.{is_writing}
use Rattle.clip_refetch.specs.Clips.{IsKnown}
use Rattle.qws_rows_painters.specs.Heads.{IsHead}
use Rattle.qws_rows_cursor.proofs.stages.play.Given as goal

abbrev pub invariant-loop-place : goal.invariant-loop-place
invariant-loop-place l = record {
  head : IsHead l.screen (l.place + 1) l.words.items l.head;
  not_writing : is_writing l.head.server.mode ≡ false;
  long : length l.words.items ≡ 10632;
  screen : l.pass.screen ≡ l.screen;
  idle : l.pass.client.mode ≡ Idle;
  known : IsKnown l.pass.client l.clip;
}

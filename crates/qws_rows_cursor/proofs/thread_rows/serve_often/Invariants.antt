use Rattle.std.proofs.Common.{◌≡◌, false, length}
use Rattle.fb_words.specs.Views.{is_writing}
use Rattle.qws_rows_painters.specs.Heads.{IsHead}
use Rattle.qws_rows_cursor.proofs.thread_rows.serve_often.Given as goal

abbrev pub invariant-loop-number : goal.invariant-loop-number
invariant-loop-number g l = record {
  head : IsHead l.screen l.number l.words.items l.head;
  not_writing : is_writing l.head.server.mode ≡ false;
  long : length l.words.items ≡ 10632;
}

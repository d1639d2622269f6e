use Rattle.std.proofs.Common.{◌≡◌, ◌+◌, false}
use Rattle.std.specs.Prelude.{MatchResult}
use Rattle.fb_words.specs.Views.{is_writing}
use Rattle.qws_rows_painters.specs.Heads.{IsHead}
use Rattle.qws_rows_cursor.proofs.thread_rows.serve_once.Given as goal

abbrev pub invariant-loop : goal.invariant-loop
invariant-loop g l = record {
  head : MatchResult l.answer (λ _. IsHead l.screen (l.number + 1) l.words l.head) (λ _. IsHead l.screen l.number l.before l.head);
  not_writing : is_writing l.head.server.mode ≡ false;
}

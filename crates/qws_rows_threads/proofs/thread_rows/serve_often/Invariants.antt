use Rattle.std.proofs.Common.{◌≡◌, ◌≤◌, ◌+◌, false}
use Rattle.fb_words.specs.Views.{is_writing}
use Rattle.qws_rows_threads.specs.Tokens.{IsHead}
use Rattle.qws_rows_threads.proofs.thread_rows.serve_often.Given as goal

abbrev pub invariant-loop : goal.invariant-loop
invariant-loop g l = record { few : l.number ≤ l.turns + 1; head : IsHead l.screen l.number l.head; not_writing : is_writing l.head.server.mode ≡ false }

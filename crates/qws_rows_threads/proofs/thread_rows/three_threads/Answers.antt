use Rattle.std.proofs.Common.{rules}
use Rattle.qws_rows_threads.specs.Tokens.{IsHead}
use Rattle.qws_rows_threads.proofs.thread_rows.three_threads.Goals as goal

pub stamp-requires-clause-head : goal.stamp-requires-clause-head
stamp-requires-clause-head g c =
    let served : IsHead c.in-Ok.turn.screen.now 50001 c.in-Ok.turn.head.now = search rules in
    c.read-closed.ensures.head 50001 served

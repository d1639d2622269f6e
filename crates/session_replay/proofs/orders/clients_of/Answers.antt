use Rattle.std.proofs.Common.{◌≡◌, ℕ, List, length}
use Rattle.std.specs.Prelude.{slice_get}
use Rattle.std.proofs.lemmas.Option.{slice_get-get_or}
use Rattle.script_grammar.specs.Session.{Session}
use Rattle.script_grammar.specs.declared.lines.CallLine.{CallLine}
use Rattle.session_replay.proofs.Calls.{some_same}
use Rattle.session_replay.proofs.LineOrder.{no_line, line_at, line_within, clients_more}
use Rattle.session_replay.proofs.orders.clients_of.Goals as goal

pub loop-j-preserved : goal.loop-j-preserved
loop-j-preserved c =
    let session : Session = c.args.script.now in
    let lines : List CallLine = session.calls in
    let j : ℕ = c.loop-j.j in
    let below = line_within j c.calls-j-end.result (length lines) c.loop-j-test.true c.calls-j-end.ensures.calls in
    let client : c.client_of.result ≡ (line_at session j).client =
    some_same (λ (l : CallLine). l.client) (slice_get lines j) (line_at session j) c.client_of.result (slice_get-get_or lines j no_line below) c.client_of.ensures.client in
    clients_more session j c.client_of.result c.loop-j.order.items _ below c.loop-j.invariant client c.in_ok-push.ensures.items

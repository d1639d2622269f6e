use Rattle.std.proofs.Common.{ℕ, List, take, get_or, sym, subst, arith}
use Rattle.qws_base.specs.Histories.{Entry}
use Rattle.script_grammar.specs.Session.{Session}
use Rattle.session_replay.specs.declared.callers.Caller.{Caller}
use Rattle.session_replay.specs.Runs.{named}
use Rattle.session_replay.specs.Steps.{IsReplay, IsCommented, IsCaller}
use Rattle.session_replay.proofs.LineOrder.{order_entry, order_next, order_more, order_length}
use Rattle.session_replay.proofs.Turns.{commented_next}
use Rattle.session_replay.proofs.Going.{next_client, caller_is, order_known, order_few, order_ready}
use Rattle.session_replay.proofs.orders.run_line.Goals as goal

pub index-requires : goal.index-requires
index-requires c =
    let session : Session = c.args.script.now in
    let order : List ℕ = c.args.order.now in
    omega (arith, order_known session order c.args.j 0 c.requires.session c.requires.order c.requires.below, c.requires.replay.callers.many)

pub call_next-requires : goal.call_next-requires
call_next-requires c =
    let session : Session = c.args.script.now in
    let order : List ℕ = c.args.order.now in
    order_ready session order c.args.j 0 c.args.run.now.replay c.requires.session c.requires.order c.requires.below (omega (arith, c.requires.below)) c.requires.replay

pub returns-clause-replay : goal.returns-clause-replay
returns-clause-replay c =
    let session : Session = c.args.script.now in
    let order : List ℕ = c.args.order.now in
    let h : List Entry = named session (take c.args.j order) in
    let e : Entry = order_entry session c.args.j in
    let next = order_next session order c.args.j 0 c.requires.order c.requires.below in
    subst (λ (g : List Entry). IsReplay session g c.call_next.new.replay) (sym (order_more session order c.args.j 0 c.requires.order c.requires.below)) (c.in_ok-answer.ensures h e next c.requires.replay).0

pub returns-clause-text : goal.returns-clause-text
returns-clause-text c =
    let session : Session = c.args.script.now in
    let order : List ℕ = c.args.order.now in
    let j : ℕ = c.args.j in
    let client : ℕ = get_or order c.args.j 0 in
    let caller : Caller = c.index.result.now in
    let h : List Entry = named session (take j order) in
    let e : Entry = order_entry session j in
    let next = order_next session order j 0 c.requires.order c.requires.below in
    let known = order_known session order j 0 c.requires.session c.requires.order c.requires.below in
    let mine : IsCaller session h client caller = caller_is session h client c.args.run.now.replay.callers.items caller c.requires.replay.callers known c.index.ensures in
    let few = order_few session order j client c.requires.order c.requires.below in
    let long = order_length session order j c.requires.order (omega (arith, c.requires.below)) in
    subst (λ (g : List Entry). IsCommented g c.push_line.new.text.items) (sym (order_more session order j 0 c.requires.order c.requires.below))
    (commented_next h e c.args.run.now.text.items c.push_line.new.text.items client caller.made c.in_ok-answer.answer c.requires.text (next_client session h client e next) mine.made (c.in_ok-answer.ensures h e next c.requires.replay).1 c.in_ok-push_line.ensures.text
    (λ less. c.in_ok-push_line.ensures.line (omega (arith, less, few, long, mine.made))))

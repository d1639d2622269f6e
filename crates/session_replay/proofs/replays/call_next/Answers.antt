use Rattle.std.proofs.Common.{◌≡◌, ◌<◌, ℕ, List, ap, sym, ◌∙◌, subst, arith}
use Rattle.qws_base.specs.Scenes.{Setting}
use Rattle.qws_base.specs.Histories.{Entry, World, world_after}
use Rattle.script_grammar.specs.Session.{Session, session_setting, call_line}
use Rattle.script_names.specs.Meaning.{meaning}
use Rattle.script_names.specs.Naming.{Naming, naming}
use Rattle.script_grammar.specs.declared.lines.CallLine.{CallLine}
use Rattle.session_replay.specs.declared.callers.Caller.{Caller}
use Rattle.session_replay.specs.Runs.{names_in}
use Rattle.session_replay.specs.Steps.{answer_of, learned_by_answer, IsCaller, IsNextWorld}
use Rattle.session_replay.proofs.Named.{IsNext, is_next}
use Rattle.session_replay.proofs.Calls.{some_same, on_line}
use Rattle.session_replay.proofs.Turns.{world_next, callers_next}
use Rattle.session_replay.proofs.Going.{next_client, caller_line, caller_is}
use Rattle.session_replay.proofs.replays.call_next.Goals as goal

pub returns : goal.returns
returns c = λ h e is before.
    let session : Session = c.args.script.now in
    let client : ℕ = c.args.client in
    let caller : Caller = c.index-caller.result.now in
    let learner : Caller = c.index_mut.result.now in
    let items : List Caller = c.args.replay.now.callers.items in
    let next : IsNext session h client e = is_next session h client e is in
    let known : client < session.clients = omega (arith, c.requires.within, before.callers.many) in
    let mine : IsCaller session h client caller = caller_is session h client items caller before.callers known c.index-caller.ensures in
    let own : IsCaller session h client learner = caller_is session h client items learner before.callers known c.index_mut.ensures.value in
    let call : c.in_ok-call.call ≡ meaning session (names_in session h client) next.line.call =
    some_same (λ (l : CallLine). meaning session (naming caller.names.slots) l.call) (call_line session caller.names.client caller.made) next.line c.in_ok-call.call (caller_line session h client caller next.line mine next.is_line) c.in_ok-call.ensures
    ∙ ap (λ (ps : Naming). meaning session ps next.line.call) mine.slots in
    let answer : c.in_ok-answer.answer ≡ answer_of e =
    on_line (λ (g : Setting) (w : World) (f : Entry). c.in_ok-answer.answer ≡ answer_of f) session h next.line client c.in_ok-call.call c.args.replay.now.core c.args.replay.now.canvas call before.world c.in_ok-answer.ensures.answer
    ∙ ap answer_of (sym next.is_entry) in
    let learns : naming c.learn.new.caller.names.slots ≡ learned_by_answer (naming learner.names.slots) next.line.call c.in_ok-answer.answer =
    some_same (λ (l : CallLine). learned_by_answer (naming learner.names.slots) l.call c.in_ok-answer.answer) (call_line session learner.names.client learner.made) next.line (naming c.learn.new.caller.names.slots) (caller_line session h client learner next.line own next.is_line) c.in_ok-learn.ensures.slots in (
      record {
        world = world_next session h e c.args.replay.now.core c.make_call.new.core c.args.replay.now.canvas c.make_call.new.canvas before.world c.make_call.ensures.size c.make_call.ensures.backdrop c.make_call.ensures.setting
            (subst (λ (f : Entry). IsNextWorld (session_setting session) (world_after (session_setting session) h) f c.make_call.new.core.state c.make_call.new.canvas.scene) (sym next.is_entry)
            (on_line (λ (g : Setting) (w : World) (f : Entry). IsNextWorld g w f c.make_call.new.core.state c.make_call.new.canvas.scene) session h next.line client c.in_ok-call.call c.args.replay.now.core c.args.replay.now.canvas call before.world c.in_ok-answer.ensures.world));
        callers = callers_next session h e next.line items client learner c.learn.new.caller c.in_ok-answer.answer before.callers known c.index_mut.ensures.value (next_client session h client e is) next.is_line answer
            c.learn.ensures.client c.learn.ensures.calls c.in_ok-learn.ensures.made learns;
      },
      answer,
    )

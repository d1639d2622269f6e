use Rattle.std.proofs.Common.{◌≡◌, ◌<◌, ◌≤◌, ◌+◌, length, refl, ap, sym, subst, ◌∙◌, arith}
use Rattle.script_grammar.specs.Session.{lines_by}
use Rattle.session_script.specs.Calls.{IsFront, IsWhole}
use Rattle.client_session.specs.Runs.{own_entries}
use Rattle.client_session.proofs.Progress.{all_lines, whole_at}
use Rattle.client_session.proofs.Running.{front_at_first, starts}
use Rattle.client_session.proofs.runs.run_client.Goals as goal

pub returns-in-Err-clause-front : goal.returns-in-Err-clause-front
returns-in-Err-clause-front g c = subst (λ n. IsFront c.args.script.now (own_entries c.args.caller.pass.client) n) c.requires.client (front_at_first c.args.script.now c.args.caller.pass.client c.requires.fresh)

pub overflow_add-k-end : goal.overflow_add-k-end
overflow_add-k-end g c =
    let all = all_lines c.args.script.now c.args.client in
    let few = (c.keeps_limits.ensures c.args.script.now c.calls-calls.ensures.session).calls c.args.client in
    let a = c.steps-steps.ensures in let b = c.paints-paints.ensures in omega arith

pub loop-k-init : goal.loop-k-init
loop-k-init g c = record {
  lease = refl;
  back = record { idle = c.requires.idle; screen = refl; setting = refl; number = refl; step_limit = refl; book_limit = refl };
  running = starts c.args.script.now c.args.caller.pass c.args.client c.in-Ok.space c.requires.idle c.requires.client c.requires.fresh c.requires.limits c.in-Ok.ensures.client c.in-Ok.ensures.names c.in-Ok.ensures.clips;
}

pub returns-clause-whole : goal.returns-clause-whole
returns-clause-whole g c =
    let number = c.loop-k.invariant.back.number ∙ c.requires.client in
    let said = c.args.script.now in
    let all = all_lines said c.args.client in
    let a = c.steps-steps.ensures in
    let b = c.paints-paints.ensures in
    let high = c.loop-k.auto.k-end in
    let low = c.loop-k-test.false in
    subst (λ n. IsWhole said (own_entries c.loop-k.caller.pass.client) n) number
    (whole_at said c.loop-k.caller.pass.client c.loop-k.k c.loop-k.space.names c.loop-k.invariant.running.at (subst (λ n. c.loop-k.k ≡ length (lines_by n said.calls)) (sym number) (omega arith)))

use Rattle.std.proofs.Common.{◌≡◌, ◌<◌, ◌≤◌, ◌+◌, length, refl, ap, sym, subst, ◌∙◌, arith}
use Rattle.script_grammar.specs.Session.{lines_by}
use Rattle.client_session.proofs.Progress.{all_lines, on_ok}
use Rattle.client_session.proofs.Running.{runs_on}
use Rattle.client_session.proofs.runs.make_call.Goals as goal

pub call-requires : goal.call-requires
call-requires g c =
    subst (λ n. c.args.k < length (lines_by n c.args.script.now.calls)) (sym c.requires.running.at.client)
    (let all = all_lines c.args.script.now c.args.caller.pass.client.number in let more = c.requires.more in omega arith)

pub returns-in-Step-clause-running : goal.returns-in-Step-clause-running
returns-in-Step-clause-running g c =
    on_ok c.make_step.result.1
    (λ at. runs_on c.args.script.now c.args.caller.pass c.make_step.result.0.pass c.args.k c.args.space.now _ c.requires.running c.make_step.ensures.back at c.make_step.ensures.paints c.make_step.ensures.clips refl)
    c.make_step.ensures.at

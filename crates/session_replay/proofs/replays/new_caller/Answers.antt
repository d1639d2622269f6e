use Rattle.std.proofs.Common.{refl, arith}
use Rattle.script_grammar.specs.Session.{lines_by}
use Rattle.script_grammar.proofs.Law.{few}
use Rattle.session_replay.proofs.Calls.{all_lines}
use Rattle.session_replay.proofs.Opening.{opening_caller}
use Rattle.session_replay.proofs.replays.new_caller.Goals as goal

pub overflow_add-calls : goal.overflow_add-calls
overflow_add-calls c =
    omega (arith, c.steps.ensures, c.paints.ensures, all_lines (lines_by c.args.client c.args.script.now.calls), (few c.args.script.now c.calls-all.ensures.session).calls c.args.client)

pub returns : goal.returns
returns c =
    opening_caller c.args.script.now c.args.client _ c.in_ok-names.ensures.client c.in_ok-names.ensures.names refl
    (omega (arith, c.steps.ensures, c.paints.ensures, all_lines (lines_by c.args.client c.args.script.now.calls)))

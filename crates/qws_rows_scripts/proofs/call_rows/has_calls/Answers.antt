use Rattle.std.proofs.Common.{not, refl, arith}
use Rattle.std.proofs.lemmas.List.Filters.{length-filter_both}
use Rattle.std.proofs.lemmas.Bool.Decides.{nat_tests}
use Rattle.script_grammar.specs.Session.{lines_by, is_paint}
use Rattle.script_grammar.specs.declared.lines.CallLine.{CallLine}
use Rattle.qws_rows_scripts.proofs.call_rows.has_calls.Goals as goal

pub returns-then-steps : goal.returns-then-steps
returns-then-steps c =
    let all = length-filter_both (λ (line : CallLine). is_paint line.call) (λ line. not (is_paint line.call)) (λ line. refl) (lines_by c.args.client c.args.script.now.calls) in
    grind (arith, nat_tests, all)

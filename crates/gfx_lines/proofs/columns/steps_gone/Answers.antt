use Rattle.std.proofs.Common.{arith}
use Rattle.gfx_lines.proofs.StepLemmas.{none_aside, between_firsts}
use Rattle.gfx_lines.proofs.columns.steps_gone.Goals as goal

pub returns-then-short-eq0 : goal.returns-then-short-eq0
returns-then-short-eq0 c = none_aside c.args.long c.args.short c.args.gone c.requires.some (omega arith) c.requires.gone

pub returns : goal.returns
returns c =
    between_firsts c.args.long c.args.short c.args.gone c.first_step.result c.first_step-2.result c.min.result c.requires.some c.requires.gone
    c.first_step.ensures.reached c.first_step.ensures.before c.first_step-2.ensures.reached c.first_step-2.ensures.before c.min.ensures

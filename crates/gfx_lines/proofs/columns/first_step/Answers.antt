use Rattle.std.proofs.Common.{arith}
use Rattle.gfx_lines.proofs.StepLemmas.{reached, not_yet}
use Rattle.gfx_lines.proofs.columns.first_step.Goals as goal

pub returns-clause-reached : goal.returns-clause-reached
returns-clause-reached c k h = reached c.args.long c.args.short c.args.gone k c.requires.some c.requires.short (omega arith) h

pub returns-clause-before : goal.returns-clause-before
returns-clause-before c k h = not_yet c.args.long c.args.short c.args.gone k c.requires.some c.requires.short (omega arith) h

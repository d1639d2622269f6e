use Rattle.gfx_lines.proofs.ReachLemmas.{first_end, last_end}
use Rattle.gfx_lines.proofs.laws.line_ends.Goals as goal

pub returns-clause-from : goal.returns-clause-from
returns-clause-from c = first_end (record { from = c.args.from; to = c.args.to; colour = c.args.c })

pub returns-clause-to : goal.returns-clause-to
returns-clause-to c = last_end (record { from = c.args.from; to = c.args.to; colour = c.args.c })

use Rattle.gfx_lines.proofs.LineLemmas.{aside_within}
use Rattle.gfx_lines.proofs.columns.aside.Goals as goal

pub returns-clause-within : goal.returns-clause-within
returns-clause-within c = aside_within c.args.long c.args.short c.args.k c.requires.some c.requires.step

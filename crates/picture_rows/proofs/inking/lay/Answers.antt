use Rattle.picture_rows.proofs.RowLemmas.{laid}
use Rattle.picture_rows.proofs.inking.lay.Goals as goal

pub returns : goal.returns
returns c = laid c.args.from c.args.to c.args.ink.now c.args.out.now c.repeat.new.out c.requires.ordered c.requires.within c.repeat.ensures

use Rattle.std.proofs.Common.{length, refl}
use Rattle.picture_rows.proofs.RowLemmas.{skipped}
use Rattle.picture_rows.proofs.inking.skip_around.Goals as goal

pub returns : goal.returns
returns c = skipped (length c.args.out.now) c.args.from c.args.to c.args.out.now c.lay.new.out c.lay-2.new.out refl c.requires.ordered c.requires.within c.lay.ensures c.lay-2.ensures

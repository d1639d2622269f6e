use Rattle.std.proofs.Common.{length}
use Rattle.picture_rows.proofs.RowLemmas.{run_filled}
use Rattle.picture_rows.proofs.inking.fill_run.Goals as goal

pub returns : goal.returns
returns c = run_filled (length c.args.out.now) c.args.from c.args.to c.args.ink.now c.args.out.now c.skip_around.new.out c.lay.new.out c.skip_around.ensures c.lay.ensures

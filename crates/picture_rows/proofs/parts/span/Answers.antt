use Rattle.std.proofs.Common.{arith}
use Rattle.std.proofs.lemmas.Int.{ints}
use Rattle.picture_rows.proofs.RunLemmas.{run_of_cuts}
use Rattle.picture_rows.proofs.parts.span.Goals as goal

pub returns : goal.returns
returns c =
    run_of_cuts c.args.low c.args.x c.args.len c.args.n c.cut.result c.cut-2.result _ _ c.cut.ensures.within c.cut-2.ensures.within c.cut.ensures.at c.cut-2.ensures.at
    (omega (arith, ints, c.from.ensures, c.from-2.ensures)) (omega (arith, ints, c.from.ensures, c.from-2.ensures, c.from-3.ensures))

use Rattle.std.proofs.Common.{arith}
use Rattle.qws_rows_threads.proofs.Painters.{gone, left}
use Rattle.qws_rows_threads.proofs.tokens.end_gone.Goals as goal

pub end-requires-clause-carries : goal.end-requires-clause-carries
end-requires-clause-carries c = λ v. gone _ v.table _ 33 _ _ (omega arith) c.requires.unpainted.1

pub returns : goal.returns
returns c = left c.args.turn.pass.now _ _ c.end.ensures.pass

use Rattle.std.proofs.Common.{arith}
use Rattle.qws_rows_threads.proofs.Painters.{gone}
use Rattle.qws_rows_cursor.proofs.refresh_rows.end_gone.Goals as goal

pub end-requires-clause-carries : goal.end-requires-clause-carries
end-requires-clause-carries c = λ v. gone _ v.table _ 33 _ _ (omega arith) c.requires.empty

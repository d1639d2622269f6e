use Rattle.std.proofs.Common.{◌≡◌, ◌*◌, ◌<◌, arith}
use Rattle.qws_rows_painters.proofs.Checked.{same_row}
use Rattle.qws_rows_painters.proofs.checks.is_same_row.Goals as goal

pub returns : goal.returns
returns c = λ yes. same_row _ _ _ c.requires.few (λ k lt. c.loop-k.invariant k (let a = c.loop-k-test.false in let b = c.loop-k.auto.k-end in omega arith))

use Rattle.std.proofs.Common.{subst, sym}
use Rattle.qws_rows_threads.specs.Tokens.{IsHead}
use Rattle.qws_rows_threads.proofs.Heads.{read_head}
use Rattle.qws_rows_threads.proofs.tokens.read.Goals as goal

pub returns-clause-head : goal.returns-clause-head
returns-clause-head c = λ number is. subst (λ s. IsHead s number c.read.new.self.head.now) (sym c.read.ensures.same.1) (read_head _ number c.args.turn.now.head.now _ c.args.word c.read.result c.read.ensures.head is)

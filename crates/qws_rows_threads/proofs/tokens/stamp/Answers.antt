use Rattle.std.proofs.Common.{subst, sym}
use Rattle.qws_rows_threads.specs.Tokens.{IsStamped}
use Rattle.qws_rows_threads.proofs.tokens.stamp.Goals as goal

pub returns-clause-head : goal.returns-clause-head
returns-clause-head c = subst (λ s. IsStamped s c.args.number c.write.new.self.head.now) (sym c.write.ensures.same.1) record { before = c.args.turn.now.head.now; is_head = c.requires.head; stamp = c.write.ensures.head }

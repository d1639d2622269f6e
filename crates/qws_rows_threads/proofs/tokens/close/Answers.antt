use Rattle.qws_rows_threads.proofs.Heads.{may_end, may_carry, next_number, client_sits, served}
use Rattle.qws_rows_threads.proofs.tokens.close.Goals as goal

pub end-requires-clause-next : goal.end-requires-clause-next
end-requires-clause-next c = next_number _ _ _ c.requires.head

pub end-requires-clause-sits : goal.end-requires-clause-sits
end-requires-clause-sits c = client_sits _ _ _ _ c.requires.head c.requires.refused.0

pub end-requires-clause-table : goal.end-requires-clause-table
end-requires-clause-table c = may_end _ _ _ c.requires.head

pub end-requires-clause-carries : goal.end-requires-clause-carries
end-requires-clause-carries c = may_carry _ _ _ c.args.entry.now c.requires.head c.requires.refused.1

pub returns-clause-head : goal.returns-clause-head
returns-clause-head c = served _ _ c.args.turn.head.now _ c.args.entry.now c.requires.head c.end.ensures.head

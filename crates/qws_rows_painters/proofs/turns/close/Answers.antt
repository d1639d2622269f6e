use Rattle.qws_rows_painters.proofs.Served.{next_number, client_sits, may_end, may_carry, served}
use Rattle.qws_rows_painters.proofs.turns.close.Goals as goal

pub end-requires-clause-next : goal.end-requires-clause-next
end-requires-clause-next c = next_number _ _ _ _ _ c.requires.served

pub end-requires-clause-sits : goal.end-requires-clause-sits
end-requires-clause-sits c = client_sits _ _ _ _ _ c.requires.served _ c.requires.refused.0

pub end-requires-clause-table : goal.end-requires-clause-table
end-requires-clause-table c = may_end _ _ _ _ _ c.requires.served c.stamps_alone_change.ensures c.requires.table c.requires.follows

pub end-requires-clause-carries : goal.end-requires-clause-carries
end-requires-clause-carries c = may_carry _ _ _ _ _ c.requires.served c.stamps_alone_change.ensures c.requires.table c.requires.follows c.args.entry.now c.phases_carry.ensures c.cells_are_lifted.ensures c.requires.refused.1

pub returns-clause-head : goal.returns-clause-head
returns-clause-head c = served _ _ _ _ _ c.requires.served c.args.entry.now _ c.end.ensures.head

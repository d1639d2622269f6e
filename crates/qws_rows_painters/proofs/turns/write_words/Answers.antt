use Rattle.qws_rows_painters.proofs.Served.{still_wide, all_written}
use Rattle.qws_rows_painters.proofs.turns.write_words.Goals as goal

pub write_span-requires-2-clause-wide : goal.write_span-requires-2-clause-wide
write_span-requires-2-clause-wide c = still_wide 1 1028 _ _ _ c.write_span.ensures.head c.requires.wide

pub returns-clause-head : goal.returns-clause-head
returns-clause-head c = all_written _ _ _ _ c.write_span.ensures.head c.write_span-2.ensures.head

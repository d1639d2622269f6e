use Rattle.desk_turns.proofs.Pointing.{new_shape, few_rows}
use Rattle.desk_turns.proofs.cursors.write_new_shape.Goals as goal

pub write_shape-requires-clause-rows : goal.write_shape-requires-clause-rows
write_shape-requires-clause-rows c = few_rows c.args.before.now c.requires.before

pub returns-then-not-is_same_shape-clause-words : goal.returns-then-not-is_same_shape-clause-words
returns-then-not-is_same_shape-clause-words c = new_shape c.tables_are_written.ensures c.args.before.now c.args.after.now c.args.turn.now.head.now.server.present c.write_shape.new.turn.head.now.server.present c.write_shape.ensures.words

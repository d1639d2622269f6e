use Rattle.desk_turns.proofs.Pointing.{new_place}
use Rattle.desk_turns.proofs.cursors.write_new_place.Goals as goal

pub returns-then-not-is_same_place-clause-words : goal.returns-then-not-is_same_place-clause-words
returns-then-not-is_same_place-clause-words c = new_place c.tables_are_written.ensures c.args.before.now c.args.after.now c.args.turn.now.head.now.server.present c.write_place.new.turn.head.now.server.present c.write_place.ensures.words

use Rattle.desk_turns.specs.Cursors.{at_place_of}
use Rattle.desk_turns.proofs.Pointing.{both_parts}
use Rattle.desk_turns.proofs.cursors.write_cursor.Goals as goal

pub returns-clause-words : goal.returns-clause-words
returns-clause-words c = both_parts c.args.before.now (at_place_of c.args.before.now c.args.after.now) c.args.after.now c.args.turn.now.head.now.server.present c.write_new_place.new.turn.head.now.server.present c.write_new_shape.new.turn.head.now.server.present
    c.write_new_place.ensures.words c.write_new_shape.ensures.words

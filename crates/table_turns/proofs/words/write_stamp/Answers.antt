use Rattle.std.proofs.Common.{arith}
use Rattle.table_turns.proofs.Setting.{set_one}
use Rattle.table_turns.proofs.words.write_stamp.Goals as goal

pub returns-clause-words : goal.returns-clause-words
returns-clause-words c = let wide = c.requires.wide in
    set_one 1 c.args.stamp c.args.turn.now.head.now.server.present c.write_word.new.turn.head.now.server.present c.write_word.ensures.present (omega arith)

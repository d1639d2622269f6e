use Rattle.std.proofs.Common.{set, ap, ◌∙◌, arith}
use Rattle.region_table.specs.Tables.{place_word}
use Rattle.table_turns.proofs.Setting.{set_one}
use Rattle.table_turns.proofs.cursors.write_place.Goals as goal

pub returns-clause-words : goal.returns-clause-words
returns-clause-words c = let wide = c.requires.wide in let t = c.args.turn.now.head.now.server.present in
    set_one 2 (place_word c.args.cursor.now) t c.write_word.new.turn.head.now.server.present (c.write_word.ensures.present ∙ ap (λ v. set t 2 v) c.place_word.ensures) (omega arith)

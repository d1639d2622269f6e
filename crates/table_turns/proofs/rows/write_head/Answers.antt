use Rattle.std.proofs.Common.{ℕ, ◌+◌, List, refl, arith}
use Rattle.region_table.specs.Numbers.{row_word}
use Rattle.table_turns.specs.Writes.{head_words}
use Rattle.table_turns.proofs.Setting.{none_set, set_more}
use Rattle.table_turns.proofs.rows.write_head.Goals as goal

pub returns-clause-words : goal.returns-clause-words
returns-clause-words c =
    let wide = c.requires.wide in
    let low = c.requires.slot in
    let at = c.row_at-first.ensures in
    let r : ℕ = row_word c.args.slot in
    let v : ℕ → ℕ = head_words c.args.owner c.args.revision c.args.origin c.args.count in
    let t : List ℕ = c.args.turn.now.head.now.server.present in
    let a : List ℕ = c.write_word.new.turn.head.now.server.present in
    let b : List ℕ = c.write_word-2.new.turn.head.now.server.present in
    let d : List ℕ = c.write_word-3.new.turn.head.now.server.present in
    let e : List ℕ = c.write_word-4.new.turn.head.now.server.present in
    let one = set_more r 0 c.row_at-first.result c.owner_word.result v t t a (none_set r v t) c.write_word.ensures.present (omega arith) (omega arith) c.owner_word.ensures in
    let two = set_more r 1 (c.row_at-first.result + 1) c.args.revision v t a b one c.write_word-2.ensures.present (omega arith) (omega arith) refl in
    let three = set_more r 2 (c.row_at-first.result + 2) c.origin_word.result v t b d two c.write_word-3.ensures.present (omega arith) (omega arith) c.origin_word.ensures in
    set_more r 3 (c.row_at-first.result + 3) c.args.count v t d e three c.write_word-4.ensures.present (omega arith) (omega arith) refl

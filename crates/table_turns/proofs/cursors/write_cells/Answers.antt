use Rattle.std.proofs.Common.{rules, ◌≡◌, ℕ, ◌+◌, ◌*◌, List, set, refl, ap, ◌∙◌, subst, arith}
use Rattle.fb_words.specs.Views.{HeadView}
use Rattle.table_turns.specs.Writes.{Sets, nth_cell}
use Rattle.table_turns.proofs.Setting.{none_set, set_more}
use Rattle.table_turns.proofs.cursors.write_cells.Goals as goal

pub loop-k-init : goal.loop-k-init
loop-k-init c = record {
  same = search rules;
  is_open = c.requires.open;
  head = refl;
  words = none_set 4 (nth_cell c.args.cursor.now) c.args.turn.now.head.now.server.present;
}

pub loop-k-preserved : goal.loop-k-preserved
loop-k-preserved c = let i = c.loop-k.invariant in let e = c.write_word.ensures in
    let rows = c.requires.rows in
    let wide = c.requires.wide in
    let test = c.loop-k-test.true in
    let w : List ℕ = c.write_word.new.turn.head.now.server.present in
    record {
      same = search rules;
      is_open = e.open;
      head = e.head ∙ ap (λ (h : HeadView). record h { server = record h.server { present = w } }) i.head;
      words = set_more 4 c.loop-k.k (4 + c.loop-k.k) c.nth_cell-cell.result (nth_cell c.args.cursor.now) c.args.turn.now.head.now.server.present c.loop-k.turn.head.now.server.present w
          i.words (e.present ∙ ap (λ n. set c.loop-k.turn.head.now.server.present (4 + n) c.nth_cell-cell.result) c.from.ensures) (omega arith) (omega arith) c.nth_cell-cell.ensures;
    }

pub returns-clause-words : goal.returns-clause-words
returns-clause-words c = let i = c.loop-k.invariant in let end = c.loop-k.auto.k-end in let test = c.loop-k-test.false in
    subst (λ n. Sets 4 n (nth_cell c.args.cursor.now) c.args.turn.now.head.now.server.present c.loop-k.turn.head.now.server.present) (let z : c.loop-k.k ≡ 32 * c.args.rows = omega arith in z) i.words

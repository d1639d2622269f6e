use Rattle.std.proofs.Common.{rules, ◌+◌, ◌*◌, ap, ◌∙◌, subst}
use Rattle.fb_words.specs.Views.{HeadView, ScreenView}
use Rattle.sw_cursor.specs.Lifts.{AddsCells, drop_one}
use Rattle.sw_cursor.proofs.Lifted.{both_cells}
use Rattle.sw_cursor.proofs.drops.drop_row.Goals as goal

pub loop-column-preserved : goal.loop-column-preserved
loop-column-preserved c = let i = c.loop-column.invariant in let e = c.drop_cell.ensures in record {
  same = search rules;
  is_open = e.open;
  head = e.head ∙ ap (λ (h : HeadView). record h { server = record h.server { log = c.drop_cell.new.turn.head.now.server.log } }) i.head;
  log = both_cells (drop_one c.args.turn.now.screen.now.setting.depth c.args.size c.args.cursor.now) (c.args.row * c.args.cursor.now.w) c.loop-column.column 1 c.args.turn.now.head.now.server.log c.loop-column.turn.head.now.server.log c.drop_cell.new.turn.head.now.server.log i.log
      (subst (λ (s : ScreenView). AddsCells (drop_one s.setting.depth c.args.size c.args.cursor.now) (c.args.row * c.args.cursor.now.w + c.loop-column.column) 1 c.loop-column.turn.head.now.server.log c.drop_cell.new.turn.head.now.server.log) i.same.1 e.log);
  true_log = λ t. e.true_log (i.true_log t);
}

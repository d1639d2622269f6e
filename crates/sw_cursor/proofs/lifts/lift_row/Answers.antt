use Rattle.std.proofs.Common.{rules, ◌*◌, ap, ◌∙◌}
use Rattle.fb_words.specs.Views.{HeadView}
use Rattle.sw_cursor.specs.Covers.{bare_cursor}
use Rattle.sw_cursor.specs.Lifts.{lift_one}
use Rattle.sw_cursor.proofs.Lifted.{both_cells}
use Rattle.sw_cursor.proofs.lifts.lift_row.Goals as goal

pub loop-column-preserved : goal.loop-column-preserved
loop-column-preserved c = let i = c.loop-column.invariant in let e = c.lift_cell.ensures in record {
  same = search rules;
  is_open = e.open;
  head = e.head ∙ ap (λ (h : HeadView). record h { server = record h.server { log = c.lift_cell.new.turn.head.now.server.log } }) i.head;
  log = both_cells (lift_one c.args.size (bare_cursor c.args.cover.now)) (c.args.row * c.args.cover.now.w) c.loop-column.column 1 c.args.turn.now.head.now.server.log c.loop-column.turn.head.now.server.log c.lift_cell.new.turn.head.now.server.log i.log e.log;
  true_log = λ t. e.true_log (i.true_log t);
}

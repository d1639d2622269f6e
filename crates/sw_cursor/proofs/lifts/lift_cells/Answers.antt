use Rattle.std.proofs.Common.{rules, refl, ap, ◌∙◌}
use Rattle.fb_words.specs.Views.{HeadView}
use Rattle.sw_cursor.specs.Covers.{bare_cursor}
use Rattle.sw_cursor.specs.Lifts.{lift_one}
use Rattle.sw_cursor.proofs.Lifted.{no_rows, row_more}
use Rattle.sw_cursor.proofs.lifts.lift_cells.Goals as goal

pub loop-row-init : goal.loop-row-init
loop-row-init c = record {
  same = search rules;
  is_open = c.requires.open;
  head = refl;
  log = no_rows (lift_one c.args.size (bare_cursor c.args.cover.now)) c.args.cover.now.w c.args.turn.now.head.now.server.log;
  true_log = λ t. t;
}

pub loop-row-preserved : goal.loop-row-preserved
loop-row-preserved c = let i = c.loop-row.invariant in let e = c.lift_row.ensures in record {
  same = search rules;
  is_open = e.open;
  head = e.head ∙ ap (λ (h : HeadView). record h { server = record h.server { log = c.lift_row.new.turn.head.now.server.log } }) i.head;
  log = row_more (lift_one c.args.size (bare_cursor c.args.cover.now)) c.loop-row.row c.args.cover.now.w c.args.turn.now.head.now.server.log c.loop-row.turn.head.now.server.log c.lift_row.new.turn.head.now.server.log i.log e.log;
  true_log = λ t. e.true_log (i.true_log t);
}

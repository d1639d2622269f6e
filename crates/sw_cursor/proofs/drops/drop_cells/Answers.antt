use Rattle.std.proofs.Common.{rules, ◌*◌, refl, ap, ◌∙◌, subst}
use Rattle.fb_words.specs.Views.{HeadView, ScreenView}
use Rattle.sw_cursor.specs.Lifts.{AddsCells, drop_one}
use Rattle.sw_cursor.proofs.Lifted.{no_rows, row_more}
use Rattle.sw_cursor.proofs.drops.drop_cells.Goals as goal

pub loop-row-init : goal.loop-row-init
loop-row-init c = record {
  same = search rules;
  is_open = c.requires.open;
  head = refl;
  log = no_rows (drop_one c.args.turn.now.screen.now.setting.depth c.args.size c.args.cursor.now) c.args.cursor.now.w c.args.turn.now.head.now.server.log;
  true_log = λ t. t;
}

pub loop-row-preserved : goal.loop-row-preserved
loop-row-preserved c = let i = c.loop-row.invariant in let e = c.drop_row.ensures in record {
  same = search rules;
  is_open = e.open;
  head = e.head ∙ ap (λ (h : HeadView). record h { server = record h.server { log = c.drop_row.new.turn.head.now.server.log } }) i.head;
  log = row_more (drop_one c.args.turn.now.screen.now.setting.depth c.args.size c.args.cursor.now) c.loop-row.row c.args.cursor.now.w c.args.turn.now.head.now.server.log c.loop-row.turn.head.now.server.log c.drop_row.new.turn.head.now.server.log i.log
      (subst (λ (s : ScreenView). AddsCells (drop_one s.setting.depth c.args.size c.args.cursor.now) (c.loop-row.row * c.args.cursor.now.w) c.args.cursor.now.w c.loop-row.turn.head.now.server.log c.drop_row.new.turn.head.now.server.log) i.same.1 e.log);
  true_log = λ t. e.true_log (i.true_log t);
}

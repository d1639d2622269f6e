use Rattle.std.proofs.Common.{◌≡◌, sym, ap, ◌∙◌, subst}
use Rattle.qws_base.specs.declared.windows.Cursor.{Cursor}
use Rattle.turn_logs.specs.Tables.{table_of}
use Rattle.turn_logs.specs.Phases.{IsTrueLog}
use Rattle.fb_words.specs.Views.{ScreenView, HeadView}
use Rattle.sw_cursor.specs.Lifts.{Drops}
use Rattle.qws_rows_painters.proofs.turns.prepare.Goals as goal

pub returns-clause-served : goal.returns-clause-served
returns-clause-served c =
    let first : HeadView = c.args.turn.now.head.now in
    let lifted : HeadView = c.lift.new.turn.head.now in
    let written : HeadView = c.write_words.new.turn.head.now in
    let last : HeadView = c.drop_at.new.turn.head.now in
    let same : c.write_words.new.turn.screen.now ≡ c.args.turn.now.screen.now = c.write_words.ensures.same.1 ∙ c.lift.ensures.same.1 in
    let opens : IsTrueLog first.server.log = subst IsTrueLog (sym c.requires.fresh.between.empty) c.logs_stay_true.ensures.opens in
    let kept : written.server.log ≡ lifted.server.log = ap (λ (h : HeadView). h.server.log) c.write_words.ensures.head.is in
    record {
      first = first;
      lifted = lifted;
      written = written;
      fresh = c.requires.fresh;
      lifts = c.lift.ensures.head;
      lift_log = c.lift.ensures.log;
      writes = c.write_words.ensures.head;
      drops = c.drop_at.ensures.head;
      drop_log = subst (λ (s : ScreenView). Drops s.setting.depth s.setting.size (table_of c.args.words.now).cursor written.server.log last.server.log) same
          (subst (λ (k : Cursor). Drops c.write_words.new.turn.screen.now.setting.depth c.write_words.new.turn.screen.now.setting.size k written.server.log last.server.log) c.requires.cursor c.drop_at.ensures.log);
      true_log = c.drop_at.ensures.true_log (subst IsTrueLog (sym kept) (c.lift.ensures.true_log opens));
    }

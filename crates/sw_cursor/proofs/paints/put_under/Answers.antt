use Rattle.std.proofs.Common.{◌++◌, ap, ◌∙◌}
use Rattle.qws_base.specs.Scenes.{Setting}
use Rattle.region_table.specs.Tables.{cursor_from}
use Rattle.turn_logs.specs.Carries.{shown_cell}
use Rattle.fb_words.specs.Clips.{log_in}
use Rattle.fb_words.specs.declared.known.Client.{Client}
use Rattle.fb_words.proofs.Going.{looks_done, both_done}
use Rattle.display_lock.specs.Turns.{client_in}
use Rattle.sw_cursor.specs.Covers.{put_items}
use Rattle.sw_cursor.proofs.paints.put_under.Goals as goal

pub returns-clause-goes : goal.returns-clause-goes
returns-clause-goes c =
    let p : Client = client_in c.args.turn.now in
    let q : Client = client_in c.look-cover.new.turn in
    let r : Client = client_in c.put_covered.new.turn in
    both_done 2 1028 p q r (looks_done 2 1028 p q c.look-cover.ensures.looks) c.put_covered.ensures.goes

pub returns-clause-log : goal.returns-clause-log
returns-clause-log c =
    let p : Client = client_in c.args.turn.now in
    let q : Client = client_in c.look-cover.new.turn in
    let a = c.look-cover.ensures.looks in
    let e = c.put_covered.ensures.log in
    record {
      found = e.found;
      log = λ words true_in. e.log words true_in
          ∙ ap (λ (s : Setting). log_in q.mode ++ put_items s.depth c.args.p (shown_cell s.size (cursor_from words) c.args.p) c.args.ink e.found) (ap (λ (x : Client). x.setting) a.rest)
          ∙ ap (λ l. l ++ put_items p.setting.depth c.args.p (shown_cell p.setting.size (cursor_from words) c.args.p) c.args.ink e.found) a.log;
    }

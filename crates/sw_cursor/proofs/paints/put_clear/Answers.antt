use Rattle.std.proofs.Common.{[], ◌++◌, if◌then◌else◌, sym, ap, ◌∙◌}
use Rattle.region_table.specs.Tables.{cursor_from}
use Rattle.fb_words.specs.declared.known.Client.{Client}
use Rattle.fb_words.specs.Clips.{log_in}
use Rattle.turn_logs.specs.Carries.{shown_cell}
use Rattle.turn_logs.specs.Pixels.{ink_items}
use Rattle.display_lock.specs.Turns.{client_in}
use Rattle.sw_cursor.proofs.Covered.{bare_here, cover_stays}
use Rattle.sw_cursor.proofs.Logs.{not_skip}
use Rattle.sw_cursor.proofs.paints.put_clear.Goals as goal

pub returns-clause-log : goal.returns-clause-log
returns-clause-log c =
    let p : Client = client_in c.args.turn.now in
    let q : Client = client_in c.put_bare.new.turn in
    let e = c.put_bare.ensures in
    record {
      found = e.log.found;
      log = λ words true_in. e.log.log
          ∙ ap (λ o. log_in p.mode ++ ink_items p.setting.depth c.args.p o c.args.ink e.log.found) (sym (bare_here p q c.args.cover.now words c.args.p c.requires.cover true_in e.goes.stays c.requires.clear))
          ∙ ap (λ b. log_in p.mode ++ (if b then [] else ink_items p.setting.depth c.args.p (shown_cell p.setting.size (cursor_from words) c.args.p) c.args.ink e.log.found)) (sym (not_skip c.args.ink c.in_default.not-Skip));
    }

pub returns-clause-cover : goal.returns-clause-cover
returns-clause-cover c = cover_stays 2 1028 (client_in c.args.turn.now) (client_in c.put_bare.new.turn) c.args.cover.now c.put_bare.ensures.goes c.requires.cover

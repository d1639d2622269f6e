use Rattle.std.proofs.Common.{◌≡◌, [], ◌++◌, if◌then◌else◌, Some, None, sym, ap, ◌∙◌, arith}
use Rattle.qws_base.specs.Points.{point_of}
use Rattle.qws_base.specs.Shown.{cell_on}
use Rattle.region_table.specs.Tables.{cursor_from}
use Rattle.fb_words.specs.declared.known.Client.{Client}
use Rattle.fb_words.specs.Clips.{log_in}
use Rattle.turn_logs.specs.Carries.{shown_cell}
use Rattle.turn_logs.specs.Pixels.{ink_items}
use Rattle.display_lock.specs.Turns.{client_in}
use Rattle.sw_cursor.specs.Covers.{bare_cursor}
use Rattle.sw_cursor.proofs.Covered.{owns_saved, bare_here, cell_here, cover_stays}
use Rattle.sw_cursor.proofs.Logs.{not_skip}
use Rattle.sw_cursor.proofs.paints.put_covered.Goals as goal

pub put_over-requires-clause-saved : goal.put_over-requires-clause-saved
put_over-requires-clause-saved c =
    let on_it : cell_on (bare_cursor c.args.cover.now) (point_of (client_in c.args.turn.now).setting.size.w c.args.p) ≡ Some (c.in-Some.cell.0, c.in-Some.cell.1) = ap (cell_on (bare_cursor c.args.cover.now)) (sym c.requires.at) ∙ sym c.in-Some.ensures.value in
    let a = c.in-Some.ensures.range.0 in
    let b = c.in-Some.ensures.range.1 in
    let w = c.requires.cover.few_w in
    let h = c.requires.cover.few_h in
    owns_saved (client_in c.args.turn.now) c.args.cover.now c.args.p c.in-Some.cell.0 c.in-Some.cell.1 c.requires.cover on_it (omega arith) (omega arith) c.requires.owns

pub returns-in-Some-clause-log : goal.returns-in-Some-clause-log
returns-in-Some-clause-log c =
    let p : Client = client_in c.args.turn.now in
    let q : Client = client_in c.put_over.new.turn in
    let on_it : cell_on (bare_cursor c.args.cover.now) (point_of p.setting.size.w c.args.p) ≡ Some (c.in-Some.cell.0, c.in-Some.cell.1) = ap (cell_on (bare_cursor c.args.cover.now)) (sym c.requires.at) ∙ sym c.in-Some.ensures.value in
    let e = c.put_over.ensures in
    record {
      found = e.log.found;
      log = λ words true_in. e.log.log
          ∙ ap (λ o. log_in p.mode ++ ink_items p.setting.depth c.args.p o c.args.ink e.log.found) (sym (cell_here p q c.args.cover.now words c.args.p c.in-Some.cell.0 c.in-Some.cell.1 e.log.value c.requires.cover true_in e.goes.stays on_it c.in-Some.ensures.range.0 c.in-Some.ensures.range.1 e.log.cell_found))
          ∙ ap (λ b. log_in p.mode ++ (if b then [] else ink_items p.setting.depth c.args.p (shown_cell p.setting.size (cursor_from words) c.args.p) c.args.ink e.log.found)) (sym (not_skip c.args.ink c.in_default.not-Skip));
    }

pub returns-in-None-clause-log : goal.returns-in-None-clause-log
returns-in-None-clause-log c =
    let p : Client = client_in c.args.turn.now in
    let q : Client = client_in c.put_bare.new.turn in
    let none : cell_on (bare_cursor c.args.cover.now) (point_of p.setting.size.w c.args.p) ≡ None = ap (cell_on (bare_cursor c.args.cover.now)) (sym c.requires.at) ∙ sym c.in-None.ensures.value in
    let e = c.put_bare.ensures in
    record {
      found = e.log.found;
      log = λ words true_in. e.log.log
          ∙ ap (λ o. log_in p.mode ++ ink_items p.setting.depth c.args.p o c.args.ink e.log.found) (sym (bare_here p q c.args.cover.now words c.args.p c.requires.cover true_in e.goes.stays none))
          ∙ ap (λ b. log_in p.mode ++ (if b then [] else ink_items p.setting.depth c.args.p (shown_cell p.setting.size (cursor_from words) c.args.p) c.args.ink e.log.found)) (sym (not_skip c.args.ink c.in_default.not-Skip));
    }

pub returns-in-Some-clause-cover : goal.returns-in-Some-clause-cover
returns-in-Some-clause-cover c = cover_stays 2 1028 (client_in c.args.turn.now) (client_in c.put_over.new.turn) c.args.cover.now c.put_over.ensures.goes c.requires.cover

pub returns-in-None-clause-cover : goal.returns-in-None-clause-cover
returns-in-None-clause-cover c = cover_stays 2 1028 (client_in c.args.turn.now) (client_in c.put_bare.new.turn) c.args.cover.now c.put_bare.ensures.goes c.requires.cover

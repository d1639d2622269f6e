use Rattle.std.proofs.Common.{rules, ℕ, ◌+◌, take, get_or, sym, ap, ◌∙◌, subst, arith, pos, length}
use Rattle.std.specs.List.{filter}
use Rattle.qws_base.specs.Scenes.{has_ink}
use Rattle.qws_base.specs.Sheets.{Sheet}
use Rattle.qws_base.specs.declared.points.Rect.{Rect}
use Rattle.fb_words.specs.declared.known.Client.{Client}
use Rattle.fb_words.proofs.Going.{both_done}
use Rattle.display_lock.specs.Turns.{client_in}
use Rattle.qws_base.specs.RectPixels.{rect_pixels}
use Rattle.picture_cuts.specs.Cuts.{cut_rect}
use Rattle.shared_painter.specs.Painted.{PaintsPixels, cut_pixels}
use Rattle.qws_base.proofs.PixelRows.{counted_both}
use Rattle.shared_painter.proofs.Painting.{both_painted, parts_more}
use Rattle.shared_painter.proofs.rows.paint_rects.Goals as goal

pub loop-rect-preserved : goal.loop-rect-preserved
loop-rect-preserved g c =
    let i = c.loop-rect.invariant in
    let sheet : Sheet = g.P.Picture.sheet c.args.picture.now in
    let p : Client = client_in c.args.turn.now in
    let q : Client = client_in c.loop-rect.turn in
    let t : Client = client_in c.paint_part-count.new.turn in
    let e = c.paint_part-count.ensures in
    let d : Rect = record { x = pos 0; y = pos 0; w = 0; h = 0 } in
    let j : ℕ = c.loop-rect.rect-index in
    let test = c.loop-rect-test.true in
    let all = parts_more c.args.size.w c.args.origin sheet.reach c.args.rects.now j d (omega arith) in
    let few = i.few in
    let more = e.few in
    record {
      same = search rules;
      is_open = e.open;
      goes = both_done 2 1028 p q t i.goes e.goes;
      covers = e.cover;
      room = e.room;
      log = subst (λ l. PaintsPixels c.args.origin sheet l p t) (sym all) (both_painted c.args.origin sheet (cut_pixels c.args.size.w c.args.origin sheet.reach (take j c.args.rects.now)) (rect_pixels c.args.size.w (cut_rect c.args.origin sheet.reach (get_or c.args.rects.now j d))) p q t (ap (λ (x : Client). x.setting) i.goes.rest) e.goes.stays i.log (subst (λ (r : Rect). PaintsPixels c.args.origin sheet (rect_pixels c.args.size.w (cut_rect c.args.origin r (get_or c.args.rects.now j d))) q t) c.reach-reach.ensures e.log));
      few = omega arith;
      counted = counted_both (has_ink c.args.size.w c.args.origin sheet) (cut_pixels c.args.size.w c.args.origin sheet.reach (take j c.args.rects.now)) (rect_pixels c.args.size.w (cut_rect c.args.origin sheet.reach (get_or c.args.rects.now j d))) (cut_pixels c.args.size.w c.args.origin sheet.reach (take (j + 1) c.args.rects.now)) c.loop-rect.count c.paint_part-count.result i.counted (e.count ∙ ap (λ (r : Rect). length (filter (has_ink c.args.size.w c.args.origin sheet) (rect_pixels c.args.size.w (cut_rect c.args.origin r (get_or c.args.rects.now j d))))) c.reach-reach.ensures) all;
    }

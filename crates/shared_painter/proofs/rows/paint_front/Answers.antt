use Rattle.std.proofs.Common.{rules, ◌≡◌, ℕ, ◌+◌, [], ◌∷◌, if◌then◌else◌, get_or, sym, ap, ◌∙◌, subst, arith}
use Rattle.std.specs.List.{range_with_len}
use Rattle.qws_base.specs.Scenes.{Setting, ink_on}
use Rattle.qws_base.specs.declared.inks.Ink.{Ink}
use Rattle.fb_words.specs.declared.known.Client.{Client}
use Rattle.fb_words.proofs.Going.{both_done}
use Rattle.display_lock.specs.Turns.{client_in}
use Rattle.shared_painter.specs.Painted.{PaintsPixels}
use Rattle.qws_base.proofs.PixelRows.{range_more, counted_more}
use Rattle.shared_painter.proofs.Painting.{one_painted, both_painted}
use Rattle.shared_painter.proofs.rows.paint_front.Goals as goal

pub loop-j-preserved : goal.loop-j-preserved
loop-j-preserved c =
    let i = c.loop-j.invariant in
    let test = c.loop-j-test.true in
    let p : Client = client_in c.args.turn.now in
    let q : Client = client_in c.loop-j.turn in
    let r : Client = client_in c.put_clear.new.turn in
    let f : ℕ = c.args.first in
    let j : ℕ = c.loop-j.j in
    let e = c.put_clear.ensures in
    let setting : q.setting ≡ p.setting = ap (λ (x : Client). x.setting) i.goes.rest in
    let found : Ink = c.index-inks-j.result in
    let told : get_or c.args.inks.now j found ≡ c.args.ink = sym c.index-inks-j.is ∙ c.is_ink.ensures c.if-not-is_ink.false in
    record {
      same = search rules;
      is_open = e.open;
      goes = both_done 2 1028 p q r i.goes e.goes;
      covers = e.cover;
      log = record {
        log = λ origin sheet has.
            let here : c.args.ink ≡ ink_on p.setting.size.w origin sheet (f + j) = sym told ∙ has j found (omega arith) in
            let one : PaintsPixels origin sheet ((f + j) ∷ []) q r = one_painted origin sheet q r (f + j) c.args.ink e.log (here ∙ ap (λ (s : Setting). ink_on s.size.w origin sheet (f + j)) (sym setting)) in
            subst (λ l. PaintsPixels origin sheet l p r) (sym (range_more f j)) (both_painted origin sheet (range_with_len f j) ((f + j) ∷ []) p q r setting e.goes.stays (i.log.log origin sheet (λ k d low. has k d (omega arith))) one);
        counted = λ origin sheet has.
            counted_more p.setting.size.w origin sheet f j j 1 c.args.ink (i.log.counted origin sheet (λ k d low. has k d (omega arith))) (ap (λ b. if b then 0 else 1) (sym c.requires.inked)) (sym told ∙ has j found (omega arith));
      };
    }

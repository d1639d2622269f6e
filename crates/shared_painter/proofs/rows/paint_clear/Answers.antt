use Rattle.std.proofs.Common.{rules, ◌≡◌, ℕ, ◌+◌, [], ◌∷◌, length, sym, ap, ◌∙◌, subst, arith}
use Rattle.std.specs.List.{range_with_len}
use Rattle.qws_base.specs.Points.{point_of}
use Rattle.qws_base.specs.Shown.{cell_on}
use Rattle.qws_base.specs.Scenes.{Setting, ink_on}
use Rattle.qws_base.specs.declared.inks.Ink.{Ink}
use Rattle.region_table.specs.Numbers.{pixel_word}
use Rattle.fb_words.specs.declared.known.Client.{Client}
use Rattle.fb_words.proofs.Going.{both_done}
use Rattle.display_lock.specs.Turns.{client_in}
use Rattle.sw_cursor.specs.Covers.{bare_cursor}
use Rattle.shared_painter.specs.Painted.{PaintsPixels, PaintsInks}
use Rattle.qws_base.proofs.PixelRows.{range_more, counted_more, few_more}
use Rattle.shared_painter.proofs.Painting.{one_painted, both_painted}
use Rattle.shared_painter.proofs.rows.paint_clear.Goals as goal

pub put_clear-requires-clause-clear : goal.put_clear-requires-clause-clear
put_clear-requires-clause-clear c =
    let i = c.loop-j.invariant in
    let test = c.loop-j-test.true in
    let k : ℕ = c.args.first + c.loop-j.j in
    subst (λ (s : Setting). cell_on (bare_cursor c.args.cover.now) (point_of s.size.w k) ≡ _) (sym (ap (λ (q : Client). q.setting) i.goes.rest)) (c.requires.clear k (omega arith) (omega arith))

pub put_clear-requires-clause-owns : goal.put_clear-requires-clause-owns
put_clear-requires-clause-owns c =
    let i = c.loop-j.invariant in
    let test = c.loop-j-test.true in
    i.goes.owns (pixel_word (c.args.first + c.loop-j.j)) (c.requires.owns (c.args.first + c.loop-j.j) (omega arith) (omega arith))

pub loop-j-preserved : goal.loop-j-preserved
loop-j-preserved c =
    let i = c.loop-j.invariant in
    let test = c.loop-j-test.true in
    let p : Client = client_in c.args.turn.now in
    let q : Client = client_in c.loop-j.turn in
    let r : Client = client_in c.put_clear.new.turn in
    let f : ℕ = c.args.first in
    let j : ℕ = c.loop-j.j in
    let e = c.put_clear.ensures in
    let setting : q.setting ≡ p.setting = ap (λ (x : Client). x.setting) i.goes.rest in
    let put : Ink = c.index-inks-j-in-loop-j.result in
    let seen : Ink = c.index-inks-j.result in
    record {
      same = search rules;
      is_open = e.open;
      goes = both_done 2 1028 p q r i.goes e.goes;
      covers = e.cover;
      log = record {
        log = λ origin sheet has.
            let here : put ≡ ink_on p.setting.size.w origin sheet (f + j) = c.index-inks-j-in-loop-j.is ∙ has j put (omega arith) in
            let one : PaintsPixels origin sheet ((f + j) ∷ []) q r = one_painted origin sheet q r (f + j) put e.log (here ∙ ap (λ (s : Setting). ink_on s.size.w origin sheet (f + j)) (sym setting)) in
            subst (λ l. PaintsPixels origin sheet l p r) (sym (range_more f j)) (both_painted origin sheet (range_with_len f j) ((f + j) ∷ []) p q r setting e.goes.stays (i.log.log origin sheet (λ k d low. has k d (omega arith))) one);
        counted = λ origin sheet has.
            counted_more p.setting.size.w origin sheet f j c.loop-j.count c.inked-count.result seen (i.log.counted origin sheet (λ k d low. has k d (omega arith))) c.inked-count.ensures (c.index-inks-j.is ∙ has j seen (omega arith));
      };
      few = few_more c.loop-j.count j c.inked-count.result seen i.few c.inked-count.ensures;
      within = omega arith;
    }

pub returns-clause-log : goal.returns-clause-log
returns-clause-log c =
    let i = c.loop-j.invariant in
    let test = c.loop-j-test.false in
    subst (λ n. PaintsInks c.args.inks.now c.args.first n (client_in c.args.turn.now) (client_in c.loop-j.turn) c.loop-j.count) (let z : c.loop-j.j ≡ length c.args.inks.now = omega (arith, i.within) in z) i.log

use Rattle.std.proofs.Common.{◌≡◌, ◌+◌, ◌≤◌, ℕ, Bool, true, false, cond, not, length, get_or, ap, sym, ◌∙◌, add-zero, arith}
use Rattle.std.specs.List.{filter, range_with_len}
use Rattle.std.proofs.lemmas.List.FromFn.{fill_by_all}
use Rattle.std.proofs.lemmas.List.{get_or-set_other, get_or_default}
use Rattle.qws_base.specs.Inks.{ink_after, is_skip}
use Rattle.qws_base.specs.Points.{pixel_count}
use Rattle.qws_base.specs.Windows.{Layout, layout_of, owns, origin_of}
use Rattle.qws_base.specs.Sheets.{Sheet}
use Rattle.qws_base.specs.Scenes.{Setting, has_ink, ink_on, pixel_after_paint}
use Rattle.qws_base.specs.declared.inks.Ink.{Ink}
use Rattle.qws_base.specs.declared.inks.Ink.TheVariants.{Skip}
use Rattle.qws_base.specs.declared.points.Point.{Point}
use Rattle.pixel_model.proofs.ColourLemmas.{colours_more}
use Rattle.pixel_model.proofs.StepLemmas.{rise_more}
use Rattle.pixel_model.proofs.PaintLemmas.{laid, kept_more, inked_both}
use Rattle.pixel_model.proofs.paints.paint_slot.Goals as goal
use Rattle.pixel_model.proofs.paints.paint_slot.Goals.{then-takes_ink, else-takes_ink}

pub returns-clause-cells : goal.returns-clause-cells
returns-clause-cells g c =
    let setting : Setting = record { size = c.args.size; depth = c.args.depth; backdrop = 0 } in
    fill_by_all (pixel_after_paint setting (layout_of c.args.size c.args.windows.now) c.args.slot (g.P.Picture.sheet c.args.picture.now) c.args.cells.now)
    c.loop-p.cells (pixel_count c.args.size) 0 (omega arith) (λ k below. c.loop-p.invariant.done k (omega arith))

few_more : (old n new : ℕ) (inked : Bool) → old ≤ n → new ≡ old + cond inked 1 0 → new ≤ n + 1
few_more old n new true most is = omega arith
few_more old n new false most is = omega arith

pub loop-p-preserved : goal.loop-p-preserved
loop-p-preserved g c =
    let setting : Setting = record { size = c.args.size; depth = c.args.depth; backdrop = 0 } in
    let layout : Layout = layout_of c.args.size c.args.windows.now in
    let sheet : Sheet = g.P.Picture.sheet c.args.picture.now in
    let p : ℕ = c.loop-p.p in
    let f : ℕ → ℕ = pixel_after_paint setting layout c.args.slot sheet c.args.cells.now in
    let ink : Point → Ink = λ origin. ink_on c.args.size.w origin sheet p in
    let owned : Bool = owns layout c.args.slot p in
    let old : c.index-cells-p.result ≡ get_or c.args.cells.now p 0 = c.index-cells-p.is ∙ get_or_default c.loop-p.cells p c.index-cells-p.result 0 (omega arith) ∙ c.loop-p.invariant.left p (omega arith) in
    let value : c.after_at.result ≡ f p =
    c.after_at.ensures.value
    ∙ ap (λ (i : Ink). ink_after c.args.depth i c.index-cells-p.result) c.pixel_ink-ink.ensures
    ∙ laid owned c.args.depth (ink c.args.origin) c.index-cells-p.result
    ∙ ap (λ (v : ℕ). cond owned (ink_after c.args.depth (ink c.args.origin) v) v) old
    ∙ ap (λ (at : Point). cond owned (ink_after c.args.depth (ink at) (get_or c.args.cells.now p 0)) (get_or c.args.cells.now p 0)) c.requires.origin in
    let inked : Bool = cond owned (has_ink c.args.size.w c.args.origin sheet p) false in
    let takes : c.takes_ink.result ≡ inked = c.takes_ink.ensures ∙ ap (λ (i : Ink). not (is_skip i)) c.pixel_ink-ink.ensures ∙ inked_both owned (ink c.args.origin) in
    let more : c.if-takes_ink.pixels ≡ c.loop-p.pixels + cond c.takes_ink.result 1 0 =
    elim c.if-takes_ink.branch [
      | then-takes_ink w ↦ w.pixels-is ∙ ap (λ b. c.loop-p.pixels + cond b 1 0) (sym w.if-takes_ink.true)
      | else-takes_ink w ↦ w.pixels-is ∙ sym (add-zero c.loop-p.pixels) ∙ ap (λ b. c.loop-p.pixels + cond b 1 0) (sym w.if-takes_ink.false)
    ] in
    record {
      done = rise_more f c.loop-p.cells p c.after_at.result (omega arith) value c.loop-p.invariant.done;
      left = λ k later. get_or-set_other c.loop-p.cells p k c.after_at.result 0 (omega arith) ∙ c.loop-p.invariant.left k (omega arith);
      colours = colours_more c.args.depth c.loop-p.cells p c.after_at.result (omega arith) c.after_at.ensures.range c.loop-p.invariant.colours;
      few = few_more c.loop-p.pixels p c.if-takes_ink.pixels c.takes_ink.result c.loop-p.invariant.few more;
      count = more ∙ ap (λ b. c.loop-p.pixels + cond b 1 0) takes ∙ ap (λ k. k + cond inked 1 0) c.loop-p.invariant.count ∙ sym (kept_more (has_ink c.args.size.w c.args.origin sheet) (owns layout c.args.slot) p);
    }

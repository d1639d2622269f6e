use Rattle.band_regions.proofs.Lemmas.{◌≡◌, ◌≤◌, sym, ap, ◌∙◌, arith, to_z, of_z, w32, map, ints, length-take-le, take_rest, length-drop, All-drop, span_of, IsInRange, false≢true, swept_run, no_rect, part_is}
use Rattle.band_regions.proofs.runs.canonical_len.Goals as goal
use Rattle.band_regions.proofs.runs.canonical_len.Goals.{else-top-y-2-via-then-top-y-2+else-has_same_spans, else-top-y-2-via-else-top-y-2}

pub loop-end-preserved : goal.loop-end-preserved
loop-end-preserved c = let rects = c.args.rects.now in let end = c.loop-end.end in let so_far = c.loop-end.invariant in let run = rw take_rest at c.band_run-count.ensures in let rest = length-drop end rects in
    let first = All-drop IsInRange end rects c.requires 0 no_rect (omega arith) in let bottom = rw take_rest at c.bottom_end-y.ensures in let low = rw take_rest at c.if-top-y.false in
    let last : c.loop-end.last ≤ end = omega (arith, length-take-le end rects so_far.within) in let cast : to_z w32 (of_z w32 c.bottom_end-y.result) ≡ c.bottom_end-y.result = omega (arith, ints) in record {
      within = omega arith;
      swept = rw (cast, bottom) (swept_run _ _ end _ rects no_rect so_far.within (omega arith) so_far.swept first run (omega (arith, ints)) (λ same e. elim c.else-top-y-2.branch [
        | else-top-y-2-via-then-top-y-2+else-has_same_spans w ↦ false≢true (sym w.if-has_same_spans.false ∙ w.has_same_spans.ensures.1 (rw take_rest (ap (map span_of) (part_is _ end rects last) ∙ e)))
        | else-top-y-2-via-else-top-y-2 w ↦ let above = rw take_rest at w.if-top-y-2.false in omega (arith, ints)
      ]));
    }

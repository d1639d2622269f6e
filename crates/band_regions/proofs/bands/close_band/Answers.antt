use Rattle.band_regions.proofs.Lemmas.{◌≡◌, ◌≤◌, length, take, refl, sym, ◌∙◌, arith, ints, take-append-drop, length-take-le, take_all, take_rest, swept_on, swept_more, swept_taller, points_taller, part_is, any_parts}
use Rattle.band_regions.proofs.bands.close_band.Goals as goal

pub returns-then-len-start-clause-swept : goal.returns-then-len-start-clause-swept
returns-then-len-start-clause-swept c = let n : length c.args.rects.now.items ≡ c.args.start = omega (arith, c.args.rects.now.ok.0, c.len.ensures) in
    rw (← n) (swept_on (rw (take_all c.args.start c.args.rects.now.items (omega arith)) at c.requires.swept) (omega (arith, ints)))

pub returns-then-has_same_spans-clause-swept : goal.returns-then-has_same_spans-clause-swept
returns-then-has_same_spans-clause-swept c = rw (c.extend_down.ensures, c.truncate.ensures.items) (swept_taller c.requires.swept c.requires.some c.requires.high)

pub returns-then-has_same_spans-clause-points : goal.returns-then-has_same_spans-clause-points
returns-then-has_same_spans-clause-points c p = let items = c.args.rects.now.items in let l : c.args.last ≤ c.args.start = omega (arith, c.requires.swept.within, length-take-le c.args.start items (omega (arith, c.args.rects.now.ok.0))) in
    rw (c.extend_down.ensures, c.truncate.ensures.items) (points_taller c.requires.swept p c.requires.is_band (rw (c.deref.ensures.value, c.deref-2.ensures.value, take_rest, part_is c.args.last c.args.start items l) at (c.if-has_same_spans.ensures.0 refl)) ∙ sym (any_parts c.args.start items p))

pub returns-clause-swept : goal.returns-clause-swept
returns-clause-swept c = let items = c.args.rects.now.items in let n : length (take c.args.start items) ≡ c.args.start = length-take-le c.args.start items (omega (arith, c.args.rects.now.ok.0)) in
    rw (n, take-append-drop) at (swept_more c.requires.swept c.requires.some c.requires.low c.requires.high c.requires.is_band
    (λ e. let f = c.if-has_same_spans.ensures.1 (rw (c.deref.ensures.value, c.deref-2.ensures.value, take_rest, part_is c.args.last c.args.start items (omega (arith, n, c.requires.swept.within))) e) in cc))

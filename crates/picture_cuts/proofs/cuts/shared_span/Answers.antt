use Rattle.std.proofs.Common.{◌≡◌, ℕ, ◌<◌, ◌^◌, arith, ℤ, pos, nat_abs, ◌+ℤ◌, ◌-ℤ◌, ◌≤ℤ◌, ◌<ℤ◌, int_lt, to_z, of_z, w32, w64, ap, ◌∙◌, sym, subst}
use Rattle.std.specs.Prelude.{FitsSigned}
use Rattle.std.proofs.lemmas.Int.{to_z-of_z}
use Rattle.qws_base.proofs.Integers.{not_lt_told}
use Rattle.picture_cuts.proofs.Cutting.{span_some, span_none, in_64, numbers, reached}
use Rattle.picture_cuts.proofs.cuts.shared_span.Goals as goal

pub overflow_cast-result : goal.overflow_cast-result
overflow_cast-result c =
    let n = numbers c.args.start c.args.origin c.args.reach c.args.len c.args.count _ _ _ _ _ _ c.later-low.result c.sooner-high.result c.ranges.origin c.ranges.reach c.ranges.start (omega arith) (omega arith)
    c.from.ensures c.from-2.ensures c.from-3.ensures c.from-4.ensures c.from-5.ensures c.from-6.ensures (record { sfits = c.later-low.type_inv }) (record { sfits = c.sooner-high.type_inv })
    c.later-low.ensures.value c.later-low.ensures.low c.sooner-high.ensures.value c.sooner-high.ensures.high in
    let r = reached c.args.start (c.args.origin +ℤ c.args.reach) c.args.len c.args.count c.later-low.result c.sooner-high.result n c.if-low-high.true c.requires.low c.requires.high in
    subst (λ z. FitsSigned w32 z) (sym n.low_same) r.low_fits

pub overflow_sub-result : goal.overflow_sub-result
overflow_sub-result c =
    let n = numbers c.args.start c.args.origin c.args.reach c.args.len c.args.count _ _ _ _ _ _ c.later-low.result c.sooner-high.result c.ranges.origin c.ranges.reach c.ranges.start (omega arith) (omega arith)
    c.from.ensures c.from-2.ensures c.from-3.ensures c.from-4.ensures c.from-5.ensures c.from-6.ensures (record { sfits = c.later-low.type_inv }) (record { sfits = c.sooner-high.type_inv })
    c.later-low.ensures.value c.later-low.ensures.low c.sooner-high.ensures.value c.sooner-high.ensures.high in
    let r = reached c.args.start (c.args.origin +ℤ c.args.reach) c.args.len c.args.count c.later-low.result c.sooner-high.result n c.if-low-high.true c.requires.low c.requires.high in
    subst (λ z. FitsSigned w64 z) (sym (ap (λ x. x -ℤ in_64 c.later-low.result) n.high_same ∙ ap (λ x. c.sooner-high.result -ℤ x) n.low_same)) r.length_fits

pub overflow_cast-result-then-low-high : goal.overflow_cast-result-then-low-high
overflow_cast-result-then-low-high c =
    let n = numbers c.args.start c.args.origin c.args.reach c.args.len c.args.count _ _ _ _ _ _ c.later-low.result c.sooner-high.result c.ranges.origin c.ranges.reach c.ranges.start (omega arith) (omega arith)
    c.from.ensures c.from-2.ensures c.from-3.ensures c.from-4.ensures c.from-5.ensures c.from-6.ensures (record { sfits = c.later-low.type_inv }) (record { sfits = c.sooner-high.type_inv })
    c.later-low.ensures.value c.later-low.ensures.low c.sooner-high.ensures.value c.sooner-high.ensures.high in
    let r = reached c.args.start (c.args.origin +ℤ c.args.reach) c.args.len c.args.count c.later-low.result c.sooner-high.result n c.if-low-high.true c.requires.low c.requires.high in
    let P : ℤ → Type 0 = λ z. (pos 0 ≤ℤ z) × (nat_abs z < 2 ^ 32) in
    let both : P (in_64 (in_64 c.sooner-high.result -ℤ in_64 c.later-low.result)) = subst P (sym r.length_is) (r.from_zero, r.few) in
    let zero = both.0 in
    let few = both.1 in
    (search Rattle.std.proofs.Common.rules, record { fits = few })

pub returns-then-low-high : goal.returns-then-low-high
returns-then-low-high c =
    let n = numbers c.args.start c.args.origin c.args.reach c.args.len c.args.count _ _ _ _ _ _ c.later-low.result c.sooner-high.result c.ranges.origin c.ranges.reach c.ranges.start (omega arith) (omega arith)
    c.from.ensures c.from-2.ensures c.from-3.ensures c.from-4.ensures c.from-5.ensures c.from-6.ensures (record { sfits = c.later-low.type_inv }) (record { sfits = c.sooner-high.type_inv })
    c.later-low.ensures.value c.later-low.ensures.low c.sooner-high.ensures.value c.sooner-high.ensures.high in
    let r = reached c.args.start (c.args.origin +ℤ c.args.reach) c.args.len c.args.count c.later-low.result c.sooner-high.result n c.if-low-high.true c.requires.low c.requires.high in
    ap (λ x. let s : ℤ × ℕ = (to_z w32 (of_z w32 x), nat_abs (in_64 (in_64 c.sooner-high.result -ℤ in_64 c.later-low.result))) in s) n.low_same
    ∙ ap (λ x. let s : ℤ × ℕ = (x, nat_abs (in_64 (in_64 c.sooner-high.result -ℤ in_64 c.later-low.result))) in s) (to_z-of_z w32 c.later-low.result r.low_fits)
    ∙ ap (λ z. let s : ℤ × ℕ = (c.later-low.result, nat_abs z) in s) r.length_is
    ∙ span_some c.args.start c.args.len (c.args.origin +ℤ c.args.reach) c.args.count c.later-low.result c.sooner-high.result n.is_low n.is_high r.before

pub returns-else-low-high : goal.returns-else-low-high
returns-else-low-high c =
    let n = numbers c.args.start c.args.origin c.args.reach c.args.len c.args.count _ _ _ _ _ _ c.later-low.result c.sooner-high.result c.ranges.origin c.ranges.reach c.ranges.start (omega arith) (omega arith)
    c.from.ensures c.from-2.ensures c.from-3.ensures c.from-4.ensures c.from-5.ensures c.from-6.ensures (record { sfits = c.later-low.type_inv }) (record { sfits = c.sooner-high.type_inv })
    c.later-low.ensures.value c.later-low.ensures.low c.sooner-high.ensures.value c.sooner-high.ensures.high in
    let none : c.sooner-high.result ≤ℤ c.later-low.result = not_lt_told c.later-low.result c.sooner-high.result (sym (ap (λ x. int_lt x (in_64 c.sooner-high.result)) n.low_same ∙ ap (int_lt c.later-low.result) n.high_same) ∙ c.if-low-high.false) in
    ap (λ x. let s : ℤ × ℕ = (x, 0) in s) (to_z-of_z w32 c.args.start c.ranges.start)
    ∙ span_none c.args.start c.args.len (c.args.origin +ℤ c.args.reach) c.args.count c.later-low.result c.sooner-high.result n.is_low n.is_high none

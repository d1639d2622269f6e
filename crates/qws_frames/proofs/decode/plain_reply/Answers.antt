use Rattle.std.proofs.Common.{◌≡◌, ℕ, ◌==◌, true, ◌<◌, ◌≤◌, sym, subst, refl, ap, ◌∙◌, arith}
use Rattle.qws_frames.specs.Layout.{u16_at, truth_of}
use Rattle.qws_frames.proofs.SoundLemmas.{sound, without_raw, truth_at, number_range, second_unused, is_refused, cause_at}
use Rattle.qws_frames.specs.Stops.{is_known, field_count}
use Rattle.qws_frames.proofs.decode.plain_reply.Goals as goal

pub returns-in-129 : goal.returns-in-129
returns-in-129 c = (without_raw true c.args.bytes.now c.requires.refused 129 4 (sym c.u16_at.ensures ∙ c.in-129.is) refl refl, sym c.u32_at.ensures)

pub returns-in-131 : goal.returns-in-131
returns-in-131 c = (without_raw true c.args.bytes.now c.requires.refused 131 4 (sym c.u16_at.ensures ∙ c.in-131.is) refl refl, sym c.u32_at-in-131.ensures)

pub returns-in-134 : goal.returns-in-134
returns-in-134 c = (without_raw true c.args.bytes.now c.requires.refused 134 4 (sym c.u16_at.ensures ∙ c.in-134.is) refl refl, sym c.u32_at-in-134.ensures)

pub returns-in-130 : goal.returns-in-130
returns-in-130 c = (without_raw true c.args.bytes.now c.requires.refused 130 0 (sym c.u16_at.ensures ∙ c.in-130.is) refl refl)

pub returns-in-132 : goal.returns-in-132
returns-in-132 c =
    let is : u16_at 0 c.args.bytes.now ≡ 132 = sym c.u16_at.ensures ∙ c.in-132.is in
    let truth = truth_at true c.args.bytes.now c.requires.refused 132 is refl in
    (without_raw true c.args.bytes.now c.requires.refused 132 4 is refl refl, truth ∙ ap (λ (v : ℕ). truth_of (v == 1)) (sym c.u32_at-in-132.ensures))

pub cause-requires-clause-high : goal.cause-requires-clause-high
cause-requires-clause-high c =
    let e = c.u16_at.ensures in
    let known = ap (is_known true) e ∙ (sound true c.args.bytes.now c.requires.refused).known in
    let is : u16_at 0 c.args.bytes.now ≡ 135 =
    sym e ∙ is_refused c.u16_at.result known (omega arith) (omega arith) (omega arith) (omega arith) (λ k. c.requires.bytes (sym e ∙ k)) (omega arith) in
    let range = number_range true c.args.bytes.now c.requires.refused is in
    subst (λ (n : ℕ). n ≤ 16) (sym c.u32_at-in_default.ensures) range.1

pub cause-requires-clause-second : goal.cause-requires-clause-second
cause-requires-clause-second c =
    let e = c.u16_at.ensures in
    let known = ap (is_known true) e ∙ (sound true c.args.bytes.now c.requires.refused).known in
    let is : u16_at 0 c.args.bytes.now ≡ 135 =
    sym e ∙ is_refused c.u16_at.result known (omega arith) (omega arith) (omega arith) (omega arith) (λ k. c.requires.bytes (sym e ∙ k)) (omega arith) in
    λ few. c.u32_at-in_default-3.ensures ∙ second_unused true c.args.bytes.now c.requires.refused is (subst (λ (n : ℕ). field_count n < 2) c.u32_at-in_default.ensures few)

pub returns-in_default : goal.returns-in_default
returns-in_default c =
    let e = c.u16_at.ensures in
    let known = ap (is_known true) e ∙ (sound true c.args.bytes.now c.requires.refused).known in
    let is : u16_at 0 c.args.bytes.now ≡ 135 =
    sym e ∙ is_refused c.u16_at.result known (omega arith) (omega arith) (omega arith) (omega arith) (λ k. c.requires.bytes (sym e ∙ k)) (omega arith) in (
      without_raw true c.args.bytes.now c.requires.refused 135 12 is refl refl,
      cause_at c.cause.result _ _ _ _ _ _ c.u32_at-in_default.ensures c.u32_at-in_default-2.ensures c.u32_at-in_default-3.ensures c.cause.ensures,
    )

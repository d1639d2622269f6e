use Rattle.std.proofs.Common.{◌≡◌, ℕ, ◌==◌, w32, to_z, of_z, false, sym, refl, ap, ◌∙◌, arith}
use Rattle.std.proofs.lemmas.Int.{ints}
use Rattle.qws_frames.specs.Layout.{u16_at, truth_of}
use Rattle.qws_frames.proofs.SoundLemmas.{sound, without_raw, truth_at, is_take}
use Rattle.qws_frames.specs.Stops.{is_known, takes_bytes}
use Rattle.qws_frames.proofs.decode.plain_command.Goals as goal

pub returns-in-1 : goal.returns-in-1
returns-in-1 c = (without_raw false c.args.bytes.now c.requires.refused 1 4 (sym c.u16_at.ensures ∙ c.in-1.is) refl refl, sym c.u32_at.ensures)

pub returns-in-2 : goal.returns-in-2
returns-in-2 c = (without_raw false c.args.bytes.now c.requires.refused 2 4 (sym c.u16_at.ensures ∙ c.in-2.is) refl refl, sym c.u32_at-in-2.ensures)

pub returns-in-5 : goal.returns-in-5
returns-in-5 c = (without_raw false c.args.bytes.now c.requires.refused 5 4 (sym c.u16_at.ensures ∙ c.in-5.is) refl refl, sym c.u32_at-in-5.ensures)

pub returns-in-6 : goal.returns-in-6
returns-in-6 c = (without_raw false c.args.bytes.now c.requires.refused 6 4 (sym c.u16_at.ensures ∙ c.in-6.is) refl refl, sym c.u32_at-in-6.ensures)

pub returns-in-4 : goal.returns-in-4
returns-in-4 c = (without_raw false c.args.bytes.now c.requires.refused 4 12 (sym c.u16_at.ensures ∙ c.in-4.is) refl refl, sym c.u32_at-in-4.ensures, sym c.point_at.ensures)

pub returns-in-8 : goal.returns-in-8
returns-in-8 c =
    let x : to_z w32 (of_z w32 c.i32_at.result) ≡ c.i32_at.result = omega (arith, ints) in
    let y : to_z w32 (of_z w32 c.i32_at-in-8.result) ≡ c.i32_at-in-8.result = omega (arith, ints) in
    (without_raw false c.args.bytes.now c.requires.refused 8 8 (sym c.u16_at.ensures ∙ c.in-8.is) refl refl, sym (x ∙ c.i32_at.ensures), sym (y ∙ c.i32_at-in-8.ensures))

pub returns-in-9 : goal.returns-in-9
returns-in-9 c =
    let is : u16_at 0 c.args.bytes.now ≡ 9 = sym c.u16_at.ensures ∙ c.in-9.is in
    let truth = truth_at false c.args.bytes.now c.requires.refused 9 is refl in
    (without_raw false c.args.bytes.now c.requires.refused 9 4 is refl refl, truth ∙ ap (λ (v : ℕ). truth_of (v == 1)) (sym c.u32_at-in-9.ensures))

pub returns-in_default : goal.returns-in_default
returns-in_default c =
    let e = c.u16_at.ensures in
    let known = ap (is_known false) e ∙ (sound false c.args.bytes.now c.requires.refused).known in
    let bytes = ap takes_bytes e ∙ c.requires.bytes in
    let is : c.u16_at.result ≡ 13 =
    is_take c.u16_at.result known bytes (omega arith) (omega arith) (λ k. c.requires.region (sym e ∙ k)) (omega arith) (omega arith) (omega arith) (λ k. c.requires.shape (sym e ∙ k)) (omega arith) (omega arith) in
    without_raw false c.args.bytes.now c.requires.refused 13 0 (sym e ∙ is) refl refl

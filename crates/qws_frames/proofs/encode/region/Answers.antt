use Rattle.std.proofs.Common.{◌≡◌, ◌*◌, ◌≤◌, ◌∷◌, [], ℕ, length, ap, subst, ◌∙◌, w32, FitsSigned, of_z, rules}
use Rattle.std.proofs.lemmas.Int.{to_z-of_z}
use Rattle.qws_frames.specs.Encoding.{head_bytes, words_bytes, rects_bytes}
use Rattle.qws_frames.proofs.EncodeLemmas.{region_built, two_parts}
use Rattle.qws_frames.proofs.encode.region.Goals as goal

pub returns-clause-spelled : goal.returns-clause-spelled
returns-clause-spelled c =
    let o = c.args.origin in
    let rects = c.args.rects.now in
    let raw = c.in_ok-raw.ensures in
    let x_fits : FitsSigned w32 o.x = search rules in
    let y_fits : FitsSigned w32 o.y = search rules in
    let x : c.cast_unsigned.result ≡ of_z w32 o.x = c.cast_unsigned.ensures ∙ ap (of_z w32) (to_z-of_z w32 o.x x_fits) in
    let y : c.cast_unsigned-2.result ≡ of_z w32 o.y = c.cast_unsigned-2.ensures ∙ ap (of_z w32) (to_z-of_z w32 o.y y_fits) in
    let written : c.in_ok-frame.frame.items ≡ head_bytes 3 16 (16 * length rects) = c.in_ok-frame.ensures.written ∙ ap (λ (n : ℕ). head_bytes 3 16 n) raw.same in
    let few : 16 * length rects ≤ 65536 = subst (λ (n : ℕ). n ≤ 65536) raw.same raw.few in
    region_built c.args.slot o rects _ _ _ c.ranges.slot.fits x_fits y_fits x y few c.in_ok-put_rects.ensures.fit
    (two_parts (words_bytes (c.args.slot ∷ c.cast_unsigned.result ∷ c.cast_unsigned-2.result ∷ length rects ∷ [])) (rects_bytes rects) written c.in_ok-put_words.ensures.put c.in_ok-put_rects.ensures.put)

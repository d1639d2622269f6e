use Rattle.std.proofs.Common.{◌≡◌, ◌*◌, ◌≤◌, ◌∷◌, [], ℕ, length, ap, subst, ◌∙◌}
use Rattle.qws_frames.specs.Encoding.{head_bytes, words_bytes}
use Rattle.qws_frames.proofs.EncodeLemmas.{shape_built, two_parts, words_from}
use Rattle.qws_frames.proofs.encode.cursor_shape.Goals as goal

pub returns-clause-spelled : goal.returns-clause-spelled
returns-clause-spelled c =
    let w = c.args.w in
    let h = c.args.h in
    let cells = c.args.cells.now in
    let raw = c.in_ok-raw.ensures in
    let written : c.in_ok-frame.frame.items ≡ head_bytes 7 8 (4 * length cells) = c.in_ok-frame.ensures.written ∙ ap (λ (n : ℕ). head_bytes 7 8 n) raw.same in
    let few : 4 * length cells ≤ 65536 = subst (λ (n : ℕ). n ≤ 65536) raw.same raw.few in
    shape_built w h cells _ c.ranges.w.fits c.ranges.h.fits few (words_from cells c.type_inv.cells)
    (two_parts (words_bytes (w ∷ h ∷ [])) (words_bytes cells) written c.in_ok-put_words.ensures.put c.in_ok-put_words-2.ensures.put)

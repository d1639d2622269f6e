use Rattle.std.proofs.Common.{◌≡◌, ◌+◌, ◌*◌, ◌≤◌, ℕ, length, ap, subst, ◌∙◌}
use Rattle.qws_frames.specs.Encoding.{head_bytes}
use Rattle.qws_frames.proofs.EncodeLemmas.{letter_built, words_from}
use Rattle.qws_frames.proofs.encode.letter.Goals as goal

pub returns-clause-spelled : goal.returns-clause-spelled
returns-clause-spelled c =
    let words = c.args.words.now in
    let channel = c.args.channel.now in
    let message = c.args.message.now in
    let payload = c.args.payload.now in
    let raw = c.in_ok-raw.ensures in
    let whole : ℕ = length channel + length message + length payload in
    let written : c.in_ok-frame.frame.items ≡ head_bytes c.args.kind (4 * length words + 4) whole = c.in_ok-frame.ensures.written ∙ ap (λ (n : ℕ). head_bytes c.args.kind (4 * length words + 4) n) raw.same in
    let few : whole ≤ 65536 = subst (λ (n : ℕ). n ≤ 65536) raw.same raw.few in
    letter_built c.args.kind words channel message payload c.ranges.kind.fits c.requires (words_from words c.type_inv.words) few raw.channel raw.message
    written c.in_ok-put_words.ensures.put c.in_ok-put_u16.ensures.put c.in_ok-put_u16-2.ensures.put c.in_ok-extend_from_slice.ensures.items c.in_ok-extend_from_slice-2.ensures.items c.in_ok-extend_from_slice-3.ensures.items

use Rattle.std.proofs.lemmas.List.{take_rest}
use Rattle.std.proofs.Common.{◌≡◌, take, drop, ap, ◌∙◌, rules}
use Rattle.qws_frames.proofs.SoundLemmas.{letter_parts}
use Rattle.qws_frames.proofs.decode.letter_at.Goals as goal

pub returns-clause-text : goal.returns-clause-text
returns-clause-text c =
    let rest = drop c.args.start c.args.bytes.now in
    let whole = take_rest c.args.bytes.now c.args.start in
    let a = c.args.channel_len in
    let b = c.args.message_len in
    let items1 : c.in_ok-channel.channel.items ≡ c.split_at.result.0.now = search rules in
    let items2 : c.in_ok-message.message.items ≡ c.split_at-2.result.0.now = search rules in
    let items3 : c.in_ok-payload.payload.items ≡ c.split_at-2.result.1.now = search rules in
    let others : c.split_at.result.1.now ≡ drop a rest = c.split_at.ensures.back ∙ ap (drop a) whole in
    let e1 : c.of.result ≡ take a rest = c.of.ensures ∙ items1 ∙ c.split_at.ensures.front ∙ ap (take a) whole in
    let e2 : c.of-2.result ≡ take b (drop a rest) = c.of-2.ensures ∙ items2 ∙ c.split_at-2.ensures.front ∙ ap (take b) others in
    let e3 : c.of-3.result ≡ drop b (drop a rest) = c.of-3.ensures ∙ items3 ∙ c.split_at-2.ensures.back ∙ ap (drop b) others in
    rw (e1, e2, e3) (letter_parts rest a b)

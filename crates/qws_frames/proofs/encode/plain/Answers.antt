use Rattle.std.proofs.Common.{◌++◌, List, ℕ, ap, ◌∙◌}
use Rattle.qws_frames.specs.Encoding.{words_bytes}
use Rattle.qws_frames.proofs.EncodeLemmas.{plain_built, words_from}
use Rattle.qws_frames.proofs.encode.plain.Goals as goal

pub returns-clause-spelled : goal.returns-clause-spelled
returns-clause-spelled c =
    let words = c.args.words.now in
    plain_built c.args.kind words _ (c.in_ok-put_words.ensures.put ∙ ap (λ (f : List ℕ). f ++ words_bytes words) c.in_ok-frame.ensures.written) c.ranges.kind.fits c.requires (words_from words c.type_inv.words)

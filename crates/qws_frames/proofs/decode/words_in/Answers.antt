use Rattle.std.proofs.Common.{ℕ, ◌∙◌, ◌++◌, ◌∷◌, [], List, ap, sym}
use Rattle.qws_frames.specs.Layout.{words_at}
use Rattle.qws_frames.proofs.SoundLemmas.{words_more}
use Rattle.qws_frames.proofs.decode.words_in.Goals as goal

pub loop-k-preserved : goal.loop-k-preserved
loop-k-preserved c =
    let more = words_more c.args.bytes.now 16 c.loop-k.k in
    c.in_ok-push.ensures.items ∙ ap (λ (all : List ℕ). all ++ c.u32_at.result ∷ []) c.loop-k.invariant
    ∙ ap (λ (r : ℕ). words_at 16 c.loop-k.k c.args.bytes.now ++ r ∷ []) c.u32_at.ensures ∙ sym more

use Rattle.std.proofs.Common.{◌∙◌, ◌++◌, ◌∷◌, [], List, ap, sym}
use Rattle.qws_base.specs.declared.points.Rect.{Rect}
use Rattle.qws_frames.specs.Layout.{rects_at}
use Rattle.qws_frames.proofs.SoundLemmas.{rects_more}
use Rattle.qws_frames.proofs.decode.rects_in.Goals as goal

pub loop-k-preserved : goal.loop-k-preserved
loop-k-preserved c =
    let more = rects_more c.args.bytes.now 24 c.loop-k.k in
    c.in_ok-push.ensures.items ∙ ap (λ (all : List Rect). all ++ c.rect_at.result ∷ []) c.loop-k.invariant
    ∙ ap (λ (r : Rect). rects_at 24 c.loop-k.k c.args.bytes.now ++ r ∷ []) c.rect_at.ensures ∙ sym more

use Rattle.std.proofs.Common.{pos}
use Rattle.std.proofs.lemmas.List.Elements.{All-more}
use Rattle.qws_base.specs.declared.points.Rect.{Rect}
use Rattle.qws_frames.specs.Encoding.{words_bytes, rect_words, IsRect}
use Rattle.qws_frames.proofs.EncodeLemmas.{one_more}
use Rattle.qws_frames.proofs.building.put_rects.Goals as goal

pub loop-rect-preserved : goal.loop-rect-preserved
loop-rect-preserved c =
    let none : Rect = record { x = pos 0; y = pos 0; w = 0; h = 0 } in
    let put = c.in_ok-put_rect.ensures in
    record {
      put = one_more (λ (r : Rect). words_bytes (rect_words r)) _ c.args.rects.now _ none c.loop-rect-test.true _ _ c.loop-rect.invariant.put put.put;
      fit = All-more IsRect c.args.rects.now _ none c.loop-rect-test.true c.loop-rect.invariant.fit put.fits;
    }

use Rattle.window_arrangements.proofs.RequestLemmas.{near_origin, near_rects}
use Rattle.window_arrangements.proofs.requests.moved.Goals as goal

pub moved_rect-requires : goal.moved_rect-requires
moved_rect-requires c = record {
  origin = near_origin c.args.origin c.requires.origin;
  rect = near_rects c.args.rects.now c.requires.rects c.loop-rect.rect-index _ c.loop-rect-test.true;
}

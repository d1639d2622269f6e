use Rattle.std.proofs.Common.{◌∙◌, ap}
use Rattle.qws_base.specs.Points.{any_holds}
use Rattle.window_arrangements.proofs.RequestLemmas.{moved_all, moved_hold}
use Rattle.window_arrangements.proofs.requests.request_of.Goals as goal

pub of_rects-requires : goal.of_rects-requires
of_rects-requires c = rw c.deref.ensures.value (rw c.in_ok-moved.ensures (moved_all c.args.origin c.args.rects.now c.requires.origin c.requires.rects))

pub returns : goal.returns
returns c = λ p.
    c.in_ok-region.ensures.points p
    ∙ ap (λ rs. any_holds rs p) (c.deref.ensures.value ∙ c.in_ok-moved.ensures)
    ∙ moved_hold c.args.origin c.args.rects.now p

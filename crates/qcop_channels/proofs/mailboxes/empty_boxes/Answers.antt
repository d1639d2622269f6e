use Rattle.std.proofs.Common.{[], List, ℕ, arith}
use Rattle.std.proofs.lemmas.List.FromFn.{map-range_with_len_more}
use Rattle.qws_base.specs.declared.replies.Event.{Event}
use Rattle.qcop_channels.proofs.mailboxes.empty_boxes.Goals as goal

pub loop-preserved : goal.loop-preserved
loop-preserved c =
    let none : List Event = [] in
    let more = map-range_with_len_more (λ (client : ℕ). none) 0 c.loop.counter c.loop.counter (omega arith) in
    let pushed = c.in_ok-push.ensures.items in
    let empty = c.in_ok-new.ensures in
    cc

use Rattle.std.proofs.Common.{◌≡◌, [], map}
use Rattle.std.specs.List.{range_with_len}
use Rattle.qcop_channels.proofs.mailboxes.empty_boxes.Given as goal

abbrev pub invariant-loop : goal.invariant-loop
invariant-loop l = l.boxes.items ≡ map (λ client. []) (range_with_len 0 l.counter)

use Rattle.std.proofs.Common.{◌≡◌, take}
use Rattle.qcop_channels.proofs.mailboxes.copy_boxes.Given as goal

abbrev pub invariant-loop-mailbox : goal.invariant-loop-mailbox
invariant-loop-mailbox l = l.all.items ≡ take l.mailbox-index l.boxes
